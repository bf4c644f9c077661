use Rattle.std.proofs.Common.{◌≡◌, ◌≤◌, ◌+◌, ◌-◌, ◌*◌}
use Rattle.operand_net.specs.Places.{at}
use Rattle.grid_cycle_spec.specs.Choosing.{each}
use Rattle.grid_cycle_spec.specs.inside.Choosing.{places}
use Rattle.grid_cycle_spec.specs.inside.Arrivals.{arrival}
use Rattle.grid_parts.specs.Seen.{seen}
use Rattle.grid_parts.specs.inside.EmptyPlaces.{AreQuiet}
use Rattle.grid_events.specs.ArrivalNotes.{arrival_notes}
use Rattle.grid_events.specs.Turns.{of_each}
use Rattle.grid_tallies.specs.declared.guess_table.Guesses.{Guesses}
use Rattle.grid_tallies.specs.Predictions.{Guessed}
use Rattle.grid_tallies.proofs.arriving.frame_arrives.Given as goal

abbrev pub invariant-loop-from : goal.invariant-loop-from
invariant-loop-from g l = record {
  change : each (arrival (g.V.Windows.blocks l.initial.grid.window)
      (g.V.Windows.budget l.initial.grid.window) l.frame)
      places (seen (g.V.Windows.held l.grid.window) l.grid.state)
      ≡ each (arrival (g.V.Windows.blocks l.initial.grid.window) (g.V.Windows.budget l.initial.grid.window) l.frame)
      places (seen (g.V.Windows.held l.initial.grid.window) l.initial.grid.state);
  heard : (c : Guesses) → Guessed l.told (of_each (arrival (g.V.Windows.blocks l.initial.grid.window)
      (g.V.Windows.budget l.initial.grid.window) l.frame) (arrival_notes (g.V.Windows.blocks l.initial.grid.window)
      (g.V.Windows.budget l.initial.grid.window) l.frame) places
      (seen (g.V.Windows.held l.grid.window) l.grid.state)) c
      → Guessed l.initial.told (of_each (arrival (g.V.Windows.blocks l.initial.grid.window)
      (g.V.Windows.budget l.initial.grid.window) l.frame) (arrival_notes (g.V.Windows.blocks l.initial.grid.window)
      (g.V.Windows.budget l.initial.grid.window) l.frame) places
      (seen (g.V.Windows.held l.initial.grid.window) l.initial.grid.state)) c;
  quiet : AreQuiet (at l.grid.state.mesh) l.frame l.from;
  within : l.from ≤ 320;
  few : l.grid.state.counts.flushed ≤ l.initial.grid.state.counts.flushed + 8 * l.from;
  image : g.V.Windows.blocks l.grid.window ≡ g.V.Windows.blocks l.initial.grid.window;
  budget : g.V.Windows.budget l.grid.window ≡ g.V.Windows.budget l.initial.grid.window;
}

abbrev pub decreases-loop-from : goal.decreases-loop-from
decreases-loop-from g l = 320 - l.from
