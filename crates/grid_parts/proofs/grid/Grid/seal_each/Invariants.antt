use Rattle.std.proofs.Common.{◌≡◌, drop}
use Rattle.grid_cycle_spec.specs.Ends.{seal_each}
use Rattle.grid_parts.specs.Seen.{seen}
use Rattle.grid_parts.proofs.grid.Grid.seal_each.Given as goal

abbrev pub invariant-loop-n : goal.invariant-loop-n
invariant-loop-n g l = record {
  change : seal_each (g.V.Windows.blocks l.initial.self.window) (g.V.Windows.budget l.initial.self.window)
      (drop l.n l.order) (seen (g.V.Windows.held l.self.window) l.self.state)
      ≡ seal_each (g.V.Windows.blocks l.initial.self.window) (g.V.Windows.budget l.initial.self.window) l.order
      (seen (g.V.Windows.held l.initial.self.window) l.initial.self.state);
  counts : l.self.state.counts ≡ l.initial.self.state.counts;
  image : g.V.Windows.blocks l.self.window ≡ g.V.Windows.blocks l.initial.self.window;
  budget : g.V.Windows.budget l.self.window ≡ g.V.Windows.budget l.initial.self.window;
}
