use Rattle.std.proofs.Common.{◌≡◌}
use Rattle.grid_cycle_spec.specs.Choosing.{each}
use Rattle.grid_cycle_spec.specs.Units.{unit_turn}
use Rattle.grid_events.specs.Turns.{of_each}
use Rattle.grid_events.specs.UnitNotes.{turn_notes}
use Rattle.grid_parts.specs.Seen.{seen}
use Rattle.grid_parts.specs.inside.Marked.{SlotsMarked}
use Rattle.grid_tallies.specs.Statistics.{Heard}
use Rattle.grid_tallies.proofs.units.works_on.Given as goal

abbrev pub invariant-loop-tile : goal.invariant-loop-tile
invariant-loop-tile g l = record {
  change : seen (g.V.Windows.held l.grid.window) l.grid.state
      ≡ each (unit_turn (g.V.Windows.blocks l.initial.grid.window) (g.V.Windows.budget l.initial.grid.window)) l.tile
      (seen (g.V.Windows.held l.initial.grid.window) l.initial.grid.state);
  heard : Heard l.initial.told (of_each
      (unit_turn (g.V.Windows.blocks l.initial.grid.window) (g.V.Windows.budget l.initial.grid.window))
      (turn_notes (g.V.Windows.blocks l.initial.grid.window) (g.V.Windows.budget l.initial.grid.window)) l.tile
      (seen (g.V.Windows.held l.initial.grid.window) l.initial.grid.state)) l.told;
  image : g.V.Windows.blocks l.grid.window ≡ g.V.Windows.blocks l.initial.grid.window;
  budget : g.V.Windows.budget l.grid.window ≡ g.V.Windows.budget l.initial.grid.window;
  marked : SlotsMarked (g.V.Windows.blocks l.grid.window) (g.V.Windows.budget l.grid.window)
      (g.V.Windows.held l.grid.window) l.marks;
}
