use Rattle.std.proofs.Common.{◌≡◌, ◌≤◌, ◌+◌, ◌*◌, drop}
use Rattle.grid_cycle_spec.specs.inside.Arrivals.{arrivals}
use Rattle.grid_parts.specs.Seen.{seen}
use Rattle.grid_events.specs.ArrivalNotes.{arrivals_notes}
use Rattle.grid_tallies.specs.declared.guess_table.Guesses.{Guesses}
use Rattle.grid_tallies.specs.Predictions.{Guessed}
use Rattle.grid_tallies.proofs.arriving.arrivals.Given as goal

abbrev pub invariant-loop-n : goal.invariant-loop-n
invariant-loop-n g l = record {
  change : arrivals (g.V.Windows.blocks l.initial.grid.window) (g.V.Windows.budget l.initial.grid.window)
      (drop l.n l.order) (seen (g.V.Windows.held l.grid.window) l.grid.state)
      ≡ arrivals (g.V.Windows.blocks l.initial.grid.window) (g.V.Windows.budget l.initial.grid.window) l.order
      (seen (g.V.Windows.held l.initial.grid.window) l.initial.grid.state);
  heard : (c : Guesses) → Guessed l.told (arrivals_notes (g.V.Windows.blocks l.initial.grid.window)
      (g.V.Windows.budget l.initial.grid.window) (drop l.n l.order)
      (seen (g.V.Windows.held l.grid.window) l.grid.state)) c
      → Guessed l.initial.told (arrivals_notes (g.V.Windows.blocks l.initial.grid.window)
      (g.V.Windows.budget l.initial.grid.window) l.order
      (seen (g.V.Windows.held l.initial.grid.window) l.initial.grid.state)) c;
  few : l.grid.state.counts.flushed ≤ l.initial.grid.state.counts.flushed + 2560 * l.n;
  image : g.V.Windows.blocks l.grid.window ≡ g.V.Windows.blocks l.initial.grid.window;
  budget : g.V.Windows.budget l.grid.window ≡ g.V.Windows.budget l.initial.grid.window;
}
