-- How many tasks the blocks have that a run commits.
use Rattle.std.specs.Prelude.{ℕ, ◌-◌, List, length, Option, Some, None, slice_get}
use Rattle.trips_isa.specs.declared.block.Block.{Block}
use Rattle.trips_isa.specs.Machine.{State, runs}
use Rattle.grid_cycle_spec.specs.Costs.{size}

-- the instructions and reads of a block of an image, and none where there is no such block
abbrev pub size_in : Option Block → ℕ
size_in None = 0
size_in (Some b) = size b

-- those of the blocks that the machine runs from a state, numbered by the blocks committed before
abbrev pub sizes_from : List Block → State → ℕ → ℕ
sizes_from blocks s n = size_in (slice_get blocks (runs blocks s (n - length s.trace)).0.next)
