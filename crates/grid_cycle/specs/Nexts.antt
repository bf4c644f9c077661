-- What the stations of a grid would do next: the firing of a tile, and the fetch that part (2) of a cycle begins.
use Rattle.std.specs.Prelude.{ℕ, ◌==◌, Bool, cond, not, List, Option, Some, None, is_none}
use Rattle.trips_isa.specs.declared.block.Block.{Block}
use Rattle.frame_state.specs.declared.event.Event.{Event}
use Rattle.frame_state.specs.declared.event.Event.TheVariants.{Fire}
use Rattle.grid_cycle_spec.specs.Choosing.{eldest, slots}
use Rattle.grid_cycle_spec.specs.Fetches.{begins, fetch_ends}
use Rattle.grid_cycle_spec.specs.Grid.{Fetching, Grid}
use Rattle.grid_cycle_spec.specs.Units.{ready}

-- firing -----------------------------------------------------------------------------------------

-- whether the unit of a tile is busy
abbrev pub is_busy : {W : Type 0} → ℕ → Grid W → Bool
is_busy tile g = not (g.units tile == 0)

-- the eldest ready entry of a tile, its frame and its slot; none where no entry is ready
abbrev pub ready_entry : {W : Type 0} → List Block → ℕ → ℕ → Grid W → Option (ℕ × ℕ)
ready_entry blocks budget tile g = eldest (ready blocks budget g tile) slots g.window.frames

-- the firing of a slot of a frame
abbrev pub fire_of : Option (ℕ × ℕ) → Option Event
fire_of None = None
fire_of (Some q) = Some (Fire q.0 q.1)

-- the firing of the eldest ready entry of a tile whose unit is free
abbrev pub next_firing : {W : Type 0} → List Block → ℕ → ℕ → Grid W → Option Event
next_firing blocks budget tile g = cond (is_busy tile g) None (fire_of (ready_entry blocks budget tile g))

-- fetching ---------------------------------------------------------------------------------------

-- the block of a fetch
abbrev pub block_in : Option Fetching → Option ℕ
block_in None = None
block_in (Some f) = Some f.block

-- the block whose fetch begins in this grid; none where a fetch is under way
abbrev pub begun_on : {W : Type 0} → List Block → Grid W → Option ℕ
begun_on blocks g = cond (is_none g.fetching) (block_in (begins blocks g).fetching) None

-- the block whose fetch part (2) begins, behind the one that it ends
abbrev pub next_fetch : {W : Type 0} → List Block → ℕ → Grid W → Option ℕ
next_fetch blocks budget g = begun_on blocks (fetch_ends blocks budget g.fetching g)
