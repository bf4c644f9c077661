use Rattle.std.proofs.Common.{sym, ◌∙◌, arith}
use Rattle.grid_cycle.proofs.DueFacts.{found_empty, none_empty}
use Rattle.grid_cycle.proofs.fetching.any_empty.Goals as goal

pub returns-then-not-is_taken : goal.returns-then-not-is_taken
returns-then-not-is_taken g c =
    let fs = (g.V.Windows.held c.args.window.now).frames in
    sym (found_empty c.args.filled fs 8 0 c.loop-frame.frame (omega arith) (omega arith)
    (sym c.is_taken.ensures ∙ c.if-not-is_taken.true))

pub returns : goal.returns
returns g c =
    let fs = (g.V.Windows.held c.args.window.now).frames in
    sym (none_empty c.args.filled fs 8 0 (λ j low high. c.loop-frame.invariant j (omega arith)))
