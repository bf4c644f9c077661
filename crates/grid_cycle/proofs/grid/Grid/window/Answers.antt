use Rattle.std.proofs.Common.{ap, ◌∙◌}
use Rattle.grid_cycle.proofs.grid.Grid.window.Goals as goal

pub returns : goal.returns
returns g c = record { value = c.window.ensures.value ∙ ap (λ x. x.window) c.self.view_is }
