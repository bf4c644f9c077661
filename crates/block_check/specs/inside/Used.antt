-- The slots of a block that are used, and the nodes that stand before the empty slots at the end.
use Rattle.std.specs.Prelude.{◌≡◌, ℕ, ◌+◌, ◌≤◌, List, length, take, None}
use Rattle.trips_isa.specs.declared.block.Block.{Block}
use Rattle.trips_isa.specs.declared.node.Node.{Node}
use Rattle.block_cases.specs.Blocks.{nodes_of}
use Rattle.block_cases.specs.Orders.{slot_of}

-- the slots from `used` on are empty
abbrev pub IsEmptyFrom : Block → ℕ → Type 0
IsEmptyFrom b used = (j : ℕ) → used ≤ j → slot_of b j ≡ None

-- the nodes of the reads and of the slots below `used`
abbrev pub nodes_below : Block → ℕ → List Node
nodes_below b used = take (length b.reads.items + used) (nodes_of b)
