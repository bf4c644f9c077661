use Rattle.std.proofs.Common.{◌≡◌, ◌≤◌, ◌+◌, ◌-◌}
use Rattle.grid_parts.specs.Seen.{seen}
use Rattle.grid_machine.specs.WholeRuns.{GoesFor}
use Rattle.grid_machine.specs.inside.Counted.{IsCounted}
use Rattle.grid_log.proofs.running.pass.Given as goal

abbrev pub invariant-loop-made : goal.invariant-loop-made
invariant-loop-made g l = record {
  run : GoesFor g.W.Weather.next g.W.Weather.follows (g.V.Windows.blocks l.initial.grid.window) l.budget l.made
      (seen (g.V.Windows.held l.initial.grid.window) l.initial.grid.state)
      (seen (g.V.Windows.held l.grid.window) l.grid.state);
  within : l.made ≤ l.most;
  counted : IsCounted (seen (g.V.Windows.held l.grid.window) l.grid.state);
  cycles : l.grid.state.counts.cycles ≡ l.initial.grid.state.counts.cycles + l.made;
  image : g.V.Windows.blocks l.grid.window ≡ g.V.Windows.blocks l.initial.grid.window;
  budget : g.V.Windows.budget l.grid.window ≡ g.V.Windows.budget l.initial.grid.window;
}

abbrev pub decreases-loop-made : goal.decreases-loop-made
decreases-loop-made g l = l.most - l.made
