use Rattle.std.proofs.Common.{Some, sym, ap, ◌∙◌, arith}
use Rattle.commit_flush_spec.specs.Window.{Store}
use Rattle.grid_cycle_spec.specs.Acting.{act}
use Rattle.grid_cycle_spec.specs.DataTiles.{unasked, waits_now}
use Rattle.grid_parts.specs.Seen.{seen}
use Rattle.grid_parts.proofs.grid.Grid.store_resolved.Goals as goal

pub returns-in-Some-clause-change : goal.returns-in-Some-clause-change
returns-in-Some-clause-change g c =
    let v = c.args.self.now.window in
    let acts = act (g.V.Windows.blocks v) (g.V.Windows.budget v) (Store c.args.frame c.args.number)
    (unasked c.args.frame c.args.number (seen (g.V.Windows.held v) c.args.self.now.state)) in
    c.wait_from_now.ensures (g.V.Windows.held c.store_acts.new.self.window)
    ∙ ap (waits_now (Some c.in-Some.load)) c.store_acts.ensures.change
    ∙ ap (λ o. waits_now o acts) (sym c.in-Some.is ∙ c.wrong_block-wrong.ensures)

pub returns-in-None-clause-change : goal.returns-in-None-clause-change
returns-in-None-clause-change g c =
    let v = c.args.self.now.window in
    let acts = act (g.V.Windows.blocks v) (g.V.Windows.budget v) (Store c.args.frame c.args.number)
    (unasked c.args.frame c.args.number (seen (g.V.Windows.held v) c.args.self.now.state)) in
    c.store_acts.ensures.change ∙ ap (λ o. waits_now o acts) (sym c.in-None.is ∙ c.wrong_block-wrong.ensures)

pub returns-in-Some-clause-few : goal.returns-in-Some-clause-few
returns-in-Some-clause-few g c =
    let few = c.store_acts.ensures.few in
    let same = ap (λ x. x.counts.flushed) (c.wait_from_now.ensures (g.V.Windows.held c.store_acts.new.self.window)) in
    omega (arith, few, same)
