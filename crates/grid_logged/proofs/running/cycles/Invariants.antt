use Rattle.std.proofs.Common.{◌≡◌, ◌≤◌, ◌+◌, ◌-◌}
use Rattle.grid_cycle.specs.Engines.{blocks_of, grid_of}
use Rattle.grid_machine.specs.inside.Counted.{IsCounted}
use Rattle.grid_logged.specs.inside.Going.{AreNext}
use Rattle.grid_logged.proofs.running.cycles.Given as goal

abbrev pub invariant-loop-made : goal.invariant-loop-made
invariant-loop-made g l = record {
  run : AreNext g.W.Weather.next g.W.Weather.follows (blocks_of l.initial.grid) l.initial.grid.window.budget l.made
      l.first l.last (grid_of l.initial.grid) (grid_of l.grid) l.initial.log l.log;
  within : l.made ≤ l.most;
  counted : IsCounted (grid_of l.grid);
  cycles : l.grid.state.counts.cycles ≡ l.initial.grid.state.counts.cycles + l.made;
  image : blocks_of l.grid ≡ blocks_of l.initial.grid;
  budget : l.grid.window.budget ≡ l.initial.grid.window.budget;
}

abbrev pub decreases-loop-made : goal.decreases-loop-made
decreases-loop-made g l = l.most - l.made
