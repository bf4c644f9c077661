use Rattle.std.proofs.Common.{◌≡◌, ◌≤◌, ◌+◌, ◌*◌}
use Rattle.grid_cycle_spec.specs.Choosing.{each}
use Rattle.grid_cycle_spec.specs.DataTiles.{data_turn}
use Rattle.grid_events.specs.StationNotes.{data_notes}
use Rattle.grid_events.specs.Turns.{of_each}
use Rattle.grid_parts.specs.Seen.{seen}
use Rattle.grid_tallies.specs.Statistics.{Heard}
use Rattle.grid_tallies.proofs.data_tiles.answer_tiles.Given as goal

abbrev pub invariant-loop-tile : goal.invariant-loop-tile
invariant-loop-tile g l = record {
  change : seen (g.V.Windows.held l.grid.window) l.grid.state
      ≡ each (data_turn (g.V.Windows.blocks l.initial.grid.window) (g.V.Windows.budget l.initial.grid.window)) l.tile
      (seen (g.V.Windows.held l.initial.grid.window) l.initial.grid.state);
  heard : Heard l.initial.told (of_each
      (data_turn (g.V.Windows.blocks l.initial.grid.window) (g.V.Windows.budget l.initial.grid.window))
      (data_notes (g.V.Windows.blocks l.initial.grid.window) (g.V.Windows.budget l.initial.grid.window)) l.tile
      (seen (g.V.Windows.held l.initial.grid.window) l.initial.grid.state)) l.told;
  few : l.grid.state.counts.flushed ≤ l.initial.grid.state.counts.flushed + 8 * l.tile;
  image : g.V.Windows.blocks l.grid.window ≡ g.V.Windows.blocks l.initial.grid.window;
  budget : g.V.Windows.budget l.grid.window ≡ g.V.Windows.budget l.initial.grid.window;
}
