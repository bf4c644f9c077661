use Rattle.std.proofs.Common.{ap, ◌∙◌}
use Rattle.grid_cycle.proofs.grid.Grid.into_window.Goals as goal

pub returns : goal.returns
returns g c = record { value = c.into_window.ensures.value ∙ ap (λ x. x.window) c.self.view_is }
