use Rattle.std.proofs.Common.{◌≡◌}
use Rattle.grid_cycle_spec.specs.Choosing.{each}
use Rattle.grid_cycle_spec.specs.Banks.{bank_turn}
use Rattle.grid_events.specs.StationNotes.{bank_notes}
use Rattle.grid_events.specs.Turns.{of_each}
use Rattle.grid_parts.specs.Seen.{seen}
use Rattle.grid_parts.specs.inside.Marked.{ReadsMarked}
use Rattle.grid_log.specs.Logs.{Logged}
use Rattle.grid_log.proofs.banks.reads_answered.Given as goal

abbrev pub invariant-loop-bank : goal.invariant-loop-bank
invariant-loop-bank g l = record {
  change : seen (g.V.Windows.held l.grid.window) l.grid.state
      ≡ each (bank_turn (g.V.Windows.blocks l.initial.grid.window) (g.V.Windows.budget l.initial.grid.window)) l.bank
      (seen (g.V.Windows.held l.initial.grid.window) l.initial.grid.state);
  told : Logged l.initial.log (of_each
      (bank_turn (g.V.Windows.blocks l.initial.grid.window) (g.V.Windows.budget l.initial.grid.window))
      (bank_notes (g.V.Windows.blocks l.initial.grid.window) (g.V.Windows.budget l.initial.grid.window)) l.bank
      (seen (g.V.Windows.held l.initial.grid.window) l.initial.grid.state)) l.log;
  image : g.V.Windows.blocks l.grid.window ≡ g.V.Windows.blocks l.initial.grid.window;
  budget : g.V.Windows.budget l.grid.window ≡ g.V.Windows.budget l.initial.grid.window;
  marked : ReadsMarked (g.V.Windows.blocks l.grid.window) (g.V.Windows.budget l.grid.window)
      (g.V.Windows.held l.grid.window) l.marks.words;
}
