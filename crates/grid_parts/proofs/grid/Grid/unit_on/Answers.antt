use Rattle.std.proofs.Common.{ap, ◌∙◌, sym, refl}
use Rattle.grid_parts.specs.Seen.{seen}
use Rattle.grid_parts.proofs.UnitFacts.{result_given, last_cycle, other_cycle}
use Rattle.grid_parts.proofs.grid.Grid.unit_on.Goals as goal

pub returns-then-left-eq1-clause-change : goal.returns-then-left-eq1-clause-change
returns-then-left-eq1-clause-change g c =
    let w = g.V.Windows.held c.args.self.now.window in
    c.gives.ensures.change
    ∙ ap (result_given c.args.tile) (c.pass.ensures w)
    ∙ last_cycle c.args.tile _ (seen w c.args.self.now.state) refl (sym c.busy-left.ensures ∙ c.if-left-eq1.true)

pub returns-else-left-eq1-clause-change : goal.returns-else-left-eq1-clause-change
returns-else-left-eq1-clause-change g c =
    let w = g.V.Windows.held c.args.self.now.window in
    c.pass.ensures w
    ∙ other_cycle c.args.tile _ (seen w c.args.self.now.state) refl
    (λ e. c.if-left-eq1.false (c.busy-left.ensures ∙ e))
