-- What the passes together give: blocks that the layout takes, in the slots that the placing says.
use Rattle.std.specs.Prelude.{◌≡◌, ℕ, Bool, true, false, nat_lt, List, Option, Some, None}
use Rattle.trips_isa.specs.declared.block.Inst.{Inst}
use Rattle.trips_isa.specs.declared.block.Block.{Block}
use Rattle.block_cases.specs.Orders.{slot_of}
use Rattle.grid_place.specs.declared.placed.Placing.{Placing}
use Rattle.grid_place.specs.Moves.{goes}
use Rattle.grid_place.specs.Placings.{IsPlacing}

-- SLOTS

-- whether a slot holds an instruction
abbrev pub is_used : Option Inst → Bool
is_used None = false
is_used (Some i) = true

-- the used slots of a block of m instructions are p(0) to p(m - 1)
pub record HasSlots (p : ℕ → ℕ) (t : Block) : Type 0 where
  -- how many instructions the block has
  pub count : ℕ
  -- the slot to which s goes holds an instruction exactly where s is below that
  pub used : (s : ℕ) → is_used (slot_of t (p s)) ≡ nat_lt s count

-- the used slots of a block are those to which its placing took the first: by a seed, those of the seed's shuffle
pub record HasPlacedSlots (p : Placing) (t : Block) : Type 0 where
  -- for each slot the slot that its instruction goes to
  pub to : List ℕ
  -- one of this placing
  pub is : IsPlacing p to
  pub slots : HasSlots (goes to) t
