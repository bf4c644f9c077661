-- A grid as contracts see it: what stands of it at every moment, and what its run has cost (docs/GRID.md, "The
-- engine").
use Rattle.std.specs.Prelude.{◌≡◌, ℕ, ◌+◌, ◌≤◌, false, List, Some, slice_get}
use Rattle.trips_isa.specs.declared.block.Block.{Block}
use Rattle.trips_isa.specs.declared.run.Ending.{Ending}
use Rattle.commit_flush.specs.Seen.{Seen}
use Rattle.grid_cycle_spec.specs.Costs.{cost_in, cost_of, greatest}
use Rattle.grid_cycle_spec.specs.Cycles.{Eager}
use Rattle.grid_cycle_spec.specs.Grid.{Grid}
use Rattle.grid_cycle_spec.specs.Laws.{AddsUp}
use Rattle.grid_parts.specs.Seen.{seen}
use Rattle.grid_parts.specs.declared.grid.Grid.{Grid as Parts}
use Rattle.grid_machine.specs.Endings.{ended, is_going}
use Rattle.grid_machine.specs.Tallies.{AllCounted}
use Rattle.grid_machine.specs.WholeRuns.{at_end}
use Rattle.grid_cycle.specs.Traps.{is_trap}

-- the grid of the definitions
abbrev pub grid_of : {W : Type 0} → Parts Seen W → Grid W
grid_of g = seen g.window.window g.state

-- the blocks of its image
abbrev pub blocks_of : {W : Type 0} → Parts Seen W → List Block
blocks_of g = g.window.image.blocks

-- one eager cycle leads from a grid to another, whose frames in flight are flushed where the cycle has ended the run
pub record IsCycle {W : Type 0} (next : W → ℕ) (follows : W → W → Type 0) (blocks : List Block) (budget : ℕ)
    (g h : Grid W) : Type 0 where
  -- the grid behind the cycle
  pub last : Grid W
  pub eager : Eager next follows blocks budget g last
  -- and the flush of what is in flight, where the run has ended
  pub ends : h ≡ at_end budget last

-- a grid has made at most as many cycles as its trace costs and the greatest cost of a block besides, or the cost of
-- the block that comes next, which at a trap is the block that trapped; at an ending that is no trap, at most as many
-- as its trace costs
pub record IsWithinCost {W : Type 0} (blocks : List Block) (budget : ℕ) (g : Grid W) : Type 0 where
  -- at every moment; a block costs at most `greatest`
  pub moment : g.counts.cycles ≤ cost_of blocks g.window.state.trace + greatest
  -- at every moment too, by what the block that comes next costs
  pub next : g.counts.cycles ≤ cost_of blocks g.window.state.trace + cost_in (slice_get blocks g.window.state.next)
  -- at an ending that is no trap
  pub ending : (e : Ending) → ended budget g.window ≡ Some e → is_trap e ≡ false
      → g.counts.cycles ≤ cost_of blocks g.window.state.trace

-- each frame that was fetched has been committed, has been flushed or is in flight, and at the end of a run none is
-- in flight
pub record IsTallied {W : Type 0} (budget : ℕ) (g : Grid W) : Type 0 where
  pub frames : AddsUp g
  pub ending : is_going budget g.window ≡ false → AllCounted g
