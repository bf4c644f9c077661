use Rattle.std.proofs.Common.{cond, ap, ◌∙◌}
use Rattle.grid_cycle_spec.specs.DataTiles.{store_resolved, load_answered}
use Rattle.grid_parts.specs.Seen.{seen}
use Rattle.grid_parts.proofs.FlushFacts.{chosen_none, chosen_some}
use Rattle.grid_parts.proofs.grid.Grid.answer.Goals as goal

pub returns-then-is_store-clause-change : goal.returns-then-is_store-clause-change
returns-then-is_store-clause-change g c =
    let v = c.args.self.now.window in
    let here = seen (g.V.Windows.held v) c.args.self.now.state in
    let bs = g.V.Windows.blocks v in
    let b = g.V.Windows.budget v in
    c.store_resolved.ensures.change
    ∙ ap (λ x. cond x (store_resolved bs b c.args.frame c.args.number here)
    (load_answered bs b c.args.tile c.args.frame c.args.number c.in-Some.request.slot here)) c.if-is_store.ensures
    ∙ chosen_some bs b c.args.tile c.args.frame c.args.number here c.in-Some.request c.in-Some.ensures.value

pub returns-else-is_store-clause-change : goal.returns-else-is_store-clause-change
returns-else-is_store-clause-change g c =
    let v = c.args.self.now.window in
    let here = seen (g.V.Windows.held v) c.args.self.now.state in
    let bs = g.V.Windows.blocks v in
    let b = g.V.Windows.budget v in
    c.load_answered.ensures.change
    ∙ ap (λ x. cond x (store_resolved bs b c.args.frame c.args.number here)
    (load_answered bs b c.args.tile c.args.frame c.args.number c.in-Some.request.slot here)) c.if-is_store.ensures
    ∙ chosen_some bs b c.args.tile c.args.frame c.args.number here c.in-Some.request c.in-Some.ensures.value

pub returns-in-None-clause-change : goal.returns-in-None-clause-change
returns-in-None-clause-change g c =
    let v = c.args.self.now.window in
    chosen_none (g.V.Windows.blocks v) (g.V.Windows.budget v) c.args.tile c.args.frame c.args.number
    (seen (g.V.Windows.held v) c.args.self.now.state) c.in-None.ensures.value
