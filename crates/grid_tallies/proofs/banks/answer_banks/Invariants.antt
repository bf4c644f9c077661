use Rattle.std.proofs.Common.{◌≡◌}
use Rattle.grid_cycle_spec.specs.Choosing.{each}
use Rattle.grid_cycle_spec.specs.Banks.{bank_turn}
use Rattle.grid_events.specs.StationNotes.{bank_notes}
use Rattle.grid_events.specs.Turns.{of_each}
use Rattle.grid_parts.specs.Seen.{seen}
use Rattle.grid_parts.specs.inside.Marked.{ReadsMarked}
use Rattle.grid_tallies.specs.Statistics.{Heard}
use Rattle.grid_tallies.proofs.banks.answer_banks.Given as goal

abbrev pub invariant-loop-bank : goal.invariant-loop-bank
invariant-loop-bank g l = record {
  change : seen (g.V.Windows.held l.grid.window) l.grid.state
      ≡ each (bank_turn (g.V.Windows.blocks l.initial.grid.window) (g.V.Windows.budget l.initial.grid.window)) l.bank
      (seen (g.V.Windows.held l.initial.grid.window) l.initial.grid.state);
  heard : Heard l.initial.told (of_each
      (bank_turn (g.V.Windows.blocks l.initial.grid.window) (g.V.Windows.budget l.initial.grid.window))
      (bank_notes (g.V.Windows.blocks l.initial.grid.window) (g.V.Windows.budget l.initial.grid.window)) l.bank
      (seen (g.V.Windows.held l.initial.grid.window) l.initial.grid.state)) l.told;
  image : g.V.Windows.blocks l.grid.window ≡ g.V.Windows.blocks l.initial.grid.window;
  budget : g.V.Windows.budget l.grid.window ≡ g.V.Windows.budget l.initial.grid.window;
  marked : ReadsMarked (g.V.Windows.blocks l.grid.window) (g.V.Windows.budget l.grid.window)
      (g.V.Windows.held l.grid.window) l.marks.words;
}
