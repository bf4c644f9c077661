-- How long operations take, and what a block may cost in cycles (docs/GRID.md, "Time" and "Cost"). Own.
use Rattle.std.specs.Prelude.{ℕ, zero, suc, ◌+◌, ◌*◌, List, [], ◌∷◌, length, Option, Some, None, slice_get}
use Rattle.trips_isa.specs.declared.op.Op.{Op}
use Rattle.trips_isa.specs.OperationTable.{row_of}
use Rattle.trips_isa.specs.declared.block.Inst.{Inst}
use Rattle.trips_isa.specs.declared.block.Block.{Block}
use Rattle.trips_isa.specs.declared.run.Traced.{Traced}
use Rattle.trips_isa.specs.Limits.{most_nodes}

-- the cycles from the issue of an operation to its result, of its row of the table
abbrev pub latency : Op → ℕ
latency o = (row_of o).latency

-- the cycles from the begin of a fetch to the frame that it fills
abbrev pub fetch_latency : ℕ
fetch_latency = 8

-- the instructions among some slots
abbrev pub instructions : List (Option Inst) → ℕ
instructions [] = zero
instructions (None ∷ slots) = instructions slots
instructions (Some i ∷ slots) = suc (instructions slots)

-- the instructions and reads of a block
abbrev pub size : Block → ℕ
size b = instructions b.insts.items + length b.reads.items

-- the cycles that a block may take for its fetch, its commit and one fetch anew
abbrev pub fixed_cost : ℕ
fixed_cost = 512

-- the cycles that it may take besides for each instruction and read
abbrev pub task_cost : ℕ
task_cost = 256

-- the cycles that a block may take
unfoldable pub cost : Block → ℕ
cost b = fixed_cost + task_cost * size b

-- the cost of a block of an image, and none where there is no such block
abbrev pub cost_in : Option Block → ℕ
cost_in None = 0
cost_in (Some b) = cost b

-- the cost of a trace: the sum over its blocks
abbrev pub cost_of : List Block → List Traced → ℕ
cost_of blocks [] = 0
cost_of blocks (t ∷ ts) = cost_in (slice_get blocks t.block) + cost_of blocks ts

-- the greatest cost of a block, 41,472: that of 128 instructions and 32 reads
abbrev pub greatest_cost : ℕ
greatest_cost = fixed_cost + task_cost * most_nodes

-- the same; not an `abbrev`, since a large numeral unrolls recursions in goals
unfoldable pub greatest : ℕ
greatest = greatest_cost
