use Rattle.std.proofs.Common.{◌≡◌, ◌≤◌, ◌+◌, ◌*◌}
use Rattle.grid_cycle_spec.specs.Choosing.{each}
use Rattle.grid_cycle_spec.specs.DataTiles.{data_turn}
use Rattle.grid_parts.specs.Seen.{seen}
use Rattle.grid_parts.proofs.grid.Grid.answer_tiles.Given as goal

abbrev pub invariant-loop-tile : goal.invariant-loop-tile
invariant-loop-tile g l = record {
  change : seen (g.V.Windows.held l.self.window) l.self.state
      ≡ each (data_turn (g.V.Windows.blocks l.initial.self.window) (g.V.Windows.budget l.initial.self.window)) l.tile
      (seen (g.V.Windows.held l.initial.self.window) l.initial.self.state);
  few : l.self.state.counts.flushed ≤ l.initial.self.state.counts.flushed + 8 * l.tile;
  image : g.V.Windows.blocks l.self.window ≡ g.V.Windows.blocks l.initial.self.window;
  budget : g.V.Windows.budget l.self.window ≡ g.V.Windows.budget l.initial.self.window;
}
