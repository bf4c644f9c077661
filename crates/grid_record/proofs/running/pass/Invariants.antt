use Rattle.std.proofs.Common.{◌≡◌, ℕ, ◌+◌, ◌-◌, ◌≤◌}
use Rattle.operand_net.specs.declared.weather.PcgWeather.{PcgWeather}
use Rattle.grid_cycle_spec.specs.Grid.{Grid}
use Rattle.grid_machine.specs.Seeds.{IsAfter, next_hold}
use Rattle.grid_machine.specs.WholeRuns.{IsRun}
use Rattle.grid_machine.specs.inside.WholeRuns.{IsKept}
use Rattle.grid_parts.specs.Seen.{seen}
use Rattle.grid_record.proofs.running.pass.Given as goal

abbrev pub invariant-loop-made : goal.invariant-loop-made
invariant-loop-made l = record {
  run : (n : ℕ) (f : Grid PcgWeather)
      → IsRun next_hold IsAfter l.initial.grid.window.image.blocks l.initial.grid.window.budget n f
      (seen l.initial.grid.window.window l.initial.grid.state)
      → IsRun next_hold IsAfter l.initial.grid.window.image.blocks l.initial.grid.window.budget (n + l.made) f
      (seen l.grid.window.window l.grid.state);
  within : l.made ≤ l.count;
  kept : IsKept l.initial.grid.window.budget (seen l.grid.window.window l.grid.state);
  cycles : l.grid.state.counts.cycles ≡ l.initial.grid.state.counts.cycles + l.made;
  image : l.grid.window.image.blocks ≡ l.initial.grid.window.image.blocks;
  budget : l.grid.window.budget ≡ l.initial.grid.window.budget;
}

abbrev pub decreases-loop-made : goal.decreases-loop-made
decreases-loop-made l = l.count - l.made
