use Rattle.std.proofs.Common.{None, refl, ap, ◌∙◌, cond}
use Rattle.grid_cycle_spec.specs.Cycles.{closed}
use Rattle.smt_mode.specs.Machines.{seen_of}
use Rattle.smt_mode.proofs.TurnCounts.{stays, still}
use Rattle.smt_mode.proofs.turns.retire.Goals as goal

pub returns-then-goes_on-clause-change : goal.returns-then-goes_on-clause-change
returns-then-goes_on-clause-change c =
    let h = seen_of c.args.program.now in
    ap (λ b. cond b h (record (closed h) { fetching = None })) c.if-goes_on.ensures

pub returns-then-goes_on-clause-stays : goal.returns-then-goes_on-clause-stays
returns-then-goes_on-clause-stays c =
    let x = c.args.program.now in
    stays x x refl refl (seen_of x) refl (still (seen_of x))

pub returns-clause-change : goal.returns-clause-change
returns-clause-change c =
    let h = seen_of c.args.program.now in
    c.close.ensures.change
    ∙ ap (λ b. cond b h (record (closed h) { fetching = None })) c.if-goes_on.ensures
