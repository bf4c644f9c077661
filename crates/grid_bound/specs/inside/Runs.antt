-- Runs of cycles each of which finds the grid as its parts ask.
use Rattle.std.specs.Prelude.{◌≡◌, ℕ, zero, suc, ◌-◌, ◌^◌, ◌<◌, ◌≤◌, List, [], length, Some, slice_get, slice_index}
use Rattle.trips_isa.specs.declared.block.Block.{Block}
use Rattle.trips_isa.specs.declared.run.Stepped.TheVariants.{Went}
use Rattle.commit_flush_spec.specs.inside.Laws.{WindowOk}
use Rattle.grid_cycle_spec.specs.Costs.{size}
use Rattle.grid_cycle_spec.specs.Grid.{Grid}
use Rattle.grid_cycle_spec.specs.Ends.{ends}
use Rattle.grid_cycle_spec.specs.Fetches.{fetches}
use Rattle.grid_cycle_spec.specs.Cycles.{Eager}
use Rattle.grid_bound.specs.inside.Laws.{LaneRule}
use Rattle.grid_bound.specs.inside.Shows.{IsDue}
use Rattle.grid_bound.specs.inside.CycleRule.{CycleRule}
use Rattle.grid_bound.specs.inside.Lanes.{lane_in}

-- what a cycle asks of the grid that it begins with: the run goes on, and the window and the lane have their rules.
-- `sizes` tells how many tasks the n-th committed block has
pub record Stands {W : Type 0} (blocks : List Block) (budget : ℕ) (sizes : ℕ → ℕ) (g : Grid W) : Type 0 where
  -- the window's invariant
  pub ok : WindowOk blocks budget g.window
  -- the run has not ended, and its budget is not spent
  pub went : g.window.over ≡ Went
  pub room : length g.window.state.trace < budget
  -- what parts (3) to (6) ask, unless part (1) ends the run
  pub parts : (ends blocks budget g).window.over ≡ Went
      → CycleRule blocks budget (fetches blocks budget (ends blocks budget g))
  -- there are sixteen tiles, and no unit beyond
  pub none : (t : ℕ) → 16 ≤ t → g.units t ≡ 0
  -- without a frame in flight, the fetch is of the committed next block, and frame 0 can be filled
  -- again
  pub due : g.window.frames ≡ [] → IsDue g g.fetching × (slice_index g.window.generations 0 < 2 ^ 64 - 1)
  -- the block that commits next has as many tasks as `sizes` says
  pub block : Block
  pub is_next : slice_get blocks g.window.state.next ≡ Some block
  pub is_size : size block ≡ sizes (length g.window.state.trace)
  -- the lane's rule
  pub lane : LaneRule sizes (lane_in g)

-- some cycles, then one more
pub record OneMore {W : Type 0} (first : Grid W → Type 0) (next : W → ℕ) (follows : W → W → Type 0)
    (blocks : List Block) (budget : ℕ) (sizes : ℕ → ℕ) (h : Grid W) : Type 0 where
  -- the grid between them
  pub between : Grid W
  pub before : first between
  pub stands : Stands blocks budget sizes between
  pub cycle : Eager next follows blocks budget between h

-- n eager cycles, each of which finds what it asks
abbrev pub AfterStanding : {W : Type 0} → (W → ℕ) → (W → W → Type 0) → List Block → ℕ → (ℕ → ℕ) → ℕ → Grid W → Grid W
    → Type 0
AfterStanding next follows blocks budget sizes zero g h = h ≡ g
AfterStanding next follows blocks budget sizes (suc n) g h =
    OneMore (λ m. AfterStanding next follows blocks budget sizes n g m) next follows blocks budget sizes h
