use Rattle.std.proofs.Common.{Some, sym, ap, ◌∙◌, arith}
use Rattle.grid_cycle_spec.specs.Ends.{commit_in, committed_as}
use Rattle.grid_cycle_spec.specs.Grid.{numbers_of}
use Rattle.grid_parts.specs.Seen.{seen}
use Rattle.grid_parts.specs.inside.Asked.{found_in, number_of}
use Rattle.grid_parts.proofs.EndFacts.{HasOldest, has_oldest}
use Rattle.grid_parts.proofs.FetchFacts.{block_is, none_flies}
use Rattle.grid_parts.proofs.grid.Grid.commit_first.Goals as goal

pub returns-in-Some-clause-change : goal.returns-in-Some-clause-change
returns-in-Some-clause-change g c =
    let v = c.args.self.now.window in
    let w = g.V.Windows.held v in
    let s = c.args.self.now.state in
    let y : HasOldest w.frames c.args.order.now =
    has_oldest w.frames c.args.order.now c.requires.order (omega arith) in
    c.committed.ensures.change y.frame y.others (sym (c.requires.order ∙ ap numbers_of y.is))
    (block_is _ y.frame c.in-Some.block c.in-Some.ensures.value y.named)
    (c.exit_of-exit.ensures ∙ ap (found_in (λ h. number_of h.exit)) y.named)
    ∙ ap (λ k. committed_as k.over y.frame y.others (seen k s)) c.commit.ensures.after
    ∙ ap (λ xs. commit_in (g.V.Windows.blocks v) (g.V.Windows.budget v) xs (seen w s)) (sym y.is)

pub returns-in-None-clause-change : goal.returns-in-None-clause-change
returns-in-None-clause-change g c =
    let w = g.V.Windows.held c.args.self.now.window in
    let y : HasOldest w.frames c.args.order.now =
    has_oldest w.frames c.args.order.now c.requires.order (omega arith) in
    absurd (let e = c.in-None.ensures.value ∙ ap (found_in (λ h. Some h.block)) y.named in cc)

pub returns-else-order-gt0-clause-change : goal.returns-else-order-gt0-clause-change
returns-else-order-gt0-clause-change g c =
    let v = c.args.self.now.window in
    let w = g.V.Windows.held v in
    sym (ap (λ xs. commit_in (g.V.Windows.blocks v) (g.V.Windows.budget v) xs (seen w c.args.self.now.state))
    (none_flies w.frames c.args.order.now c.requires.order (omega arith)))
