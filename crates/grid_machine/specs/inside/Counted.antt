-- Counts that have room for a cycle.
use Rattle.std.specs.Prelude.{◌≤◌}
use Rattle.grid_cycle_spec.specs.Grid.{Grid}
use Rattle.grid_cycle_spec.specs.Laws.{AddsUp}

-- the frames add up, and no more of them have been fetched than cycles have been made
pub record IsCounted {W : Type 0} (g : Grid W) : Type 0 where
  -- so each frame that was filled is counted once
  pub adds : AddsUp g
  -- no cycle fills two
  pub fetched : g.counts.fetched ≤ g.counts.cycles
