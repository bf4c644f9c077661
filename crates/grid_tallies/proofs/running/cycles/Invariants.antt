use Rattle.std.proofs.Common.{◌≡◌, ◌≤◌, ◌+◌, ◌-◌}
use Rattle.grid_parts.specs.Seen.{seen}
use Rattle.grid_machine.specs.inside.Counted.{IsCounted}
use Rattle.grid_tallies.specs.Runs.{AreCounted}
use Rattle.grid_tallies.proofs.running.cycles.Given as goal

abbrev pub invariant-loop-made : goal.invariant-loop-made
invariant-loop-made g l = record {
  run : AreCounted g.W.Weather.next g.W.Weather.follows (g.V.Windows.blocks l.initial.grid.window) l.budget l.made
      (seen (g.V.Windows.held l.initial.grid.window) l.initial.grid.state)
      (seen (g.V.Windows.held l.grid.window) l.grid.state) l.initial.told l.told l.initial.flights l.flights;
  within : l.made ≤ l.most;
  counted : IsCounted (seen (g.V.Windows.held l.grid.window) l.grid.state);
  cycles : l.grid.state.counts.cycles ≡ l.initial.grid.state.counts.cycles + l.made;
  image : g.V.Windows.blocks l.grid.window ≡ g.V.Windows.blocks l.initial.grid.window;
  budget : g.V.Windows.budget l.grid.window ≡ g.V.Windows.budget l.initial.grid.window;
}

abbrev pub decreases-loop-made : goal.decreases-loop-made
decreases-loop-made g l = l.most - l.made
