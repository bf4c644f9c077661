use Rattle.std.proofs.Common.{◌≡◌, drop}
use Rattle.grid_cycle_spec.specs.Ends.{seal_each}
use Rattle.grid_events.specs.EndNotes.{seals_notes}
use Rattle.grid_parts.specs.Seen.{seen}
use Rattle.grid_log.specs.declared.log.Log.{Log}
use Rattle.grid_log.specs.Logs.{Logged}
use Rattle.grid_log.proofs.ends.seal_each.Given as goal

abbrev pub invariant-loop-n : goal.invariant-loop-n
invariant-loop-n g l = record {
  change : seal_each (g.V.Windows.blocks l.initial.grid.window) (g.V.Windows.budget l.initial.grid.window)
      (drop l.n l.order) (seen (g.V.Windows.held l.grid.window) l.grid.state)
      ≡ seal_each (g.V.Windows.blocks l.initial.grid.window) (g.V.Windows.budget l.initial.grid.window) l.order
      (seen (g.V.Windows.held l.initial.grid.window) l.initial.grid.state);
  told : (c : Log) → Logged l.log (seals_notes (g.V.Windows.blocks l.initial.grid.window)
      (g.V.Windows.budget l.initial.grid.window) (drop l.n l.order)
      (seen (g.V.Windows.held l.grid.window) l.grid.state)) c
      → Logged l.initial.log (seals_notes (g.V.Windows.blocks l.initial.grid.window)
      (g.V.Windows.budget l.initial.grid.window) l.order
      (seen (g.V.Windows.held l.initial.grid.window) l.initial.grid.state)) c;
  counts : l.grid.state.counts ≡ l.initial.grid.state.counts;
  image : g.V.Windows.blocks l.grid.window ≡ g.V.Windows.blocks l.initial.grid.window;
  budget : g.V.Windows.budget l.grid.window ≡ g.V.Windows.budget l.initial.grid.window;
}
