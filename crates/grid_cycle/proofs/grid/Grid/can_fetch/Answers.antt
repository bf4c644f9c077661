use Rattle.std.proofs.Common.{ap, ◌∙◌}
use Rattle.grid_cycle.specs.Engines.{blocks_of, grid_of}
use Rattle.grid_cycle.specs.Nexts.{next_fetch}
use Rattle.grid_cycle.proofs.grid.Grid.can_fetch.Goals as goal

pub returns : goal.returns
returns g c = record {
  value = c.next_fetch.ensures ∙ ap (λ x. next_fetch (blocks_of x) x.window.budget (grid_of x)) c.self.view_is;
}
