use Rattle.std.proofs.Common.{◌≡◌}
use Rattle.grid_cycle_spec.specs.Choosing.{each}
use Rattle.grid_cycle_spec.specs.Units.{unit_turn}
use Rattle.grid_parts.specs.Seen.{seen}
use Rattle.grid_parts.specs.inside.Marked.{SlotsMarked}
use Rattle.grid_parts.proofs.grid.Grid.works_on.Given as goal

abbrev pub invariant-loop-tile : goal.invariant-loop-tile
invariant-loop-tile g l = record {
  change : seen (g.V.Windows.held l.self.window) l.self.state
      ≡ each (unit_turn (g.V.Windows.blocks l.initial.self.window) (g.V.Windows.budget l.initial.self.window)) l.tile
      (seen (g.V.Windows.held l.initial.self.window) l.initial.self.state);
  image : g.V.Windows.blocks l.self.window ≡ g.V.Windows.blocks l.initial.self.window;
  budget : g.V.Windows.budget l.self.window ≡ g.V.Windows.budget l.initial.self.window;
  marked : SlotsMarked (g.V.Windows.blocks l.self.window) (g.V.Windows.budget l.self.window)
      (g.V.Windows.held l.self.window) l.marks;
}
