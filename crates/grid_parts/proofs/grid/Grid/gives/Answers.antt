use Rattle.std.proofs.Common.{sym, ap, ◌∙◌}
use Rattle.grid_cycle_spec.specs.Units.{result_chosen}
use Rattle.grid_parts.specs.Seen.{seen}
use Rattle.grid_parts.proofs.grid.Grid.gives.Goals as goal

pub returns-in-Some-clause-change : goal.returns-in-Some-clause-change
returns-in-Some-clause-change g c =
    let w = g.V.Windows.held c.args.self.now.window in
    c.give.ensures.change
    ∙ ap (λ o. result_chosen o (seen w c.args.self.now.state))
    (c.in-Some.ensures.value w (sym (c.as_slice.ensures.value ∙ c.numbers-frames.ensures.value)))

pub returns-in-None-clause-change : goal.returns-in-None-clause-change
returns-in-None-clause-change g c =
    let w = g.V.Windows.held c.args.self.now.window in
    ap (λ o. result_chosen o (seen w c.args.self.now.state))
    (c.in-None.ensures.value w (sym (c.as_slice.ensures.value ∙ c.numbers-frames.ensures.value)))
