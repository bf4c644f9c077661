-- The faults of a target and of a number, which hang on no case. Own, as are all faults of a block
-- (docs/MACHINE.md, "Good blocks").
use Rattle.std.specs.Prelude.{◌≡◌, ℕ, ◌<◌, Bool, true, false, ◌==◌, ◌&&◌, ◌||◌, nat_lt, List, []}
use Rattle.std.specs.Prelude.{◌∷◌, take, length, Option, Some, None, slice_get, slice_index}
use Rattle.std.specs.Prelude.{slice_index_or}
use Rattle.trips_isa.specs.declared.block.Spot.{Spot}
use Rattle.trips_isa.specs.declared.block.Spot.TheVariants as spot
use Rattle.trips_isa.specs.declared.block.Inst.{Inst}
use Rattle.trips_isa.specs.declared.block.ReadSlot.{ReadSlot}
use Rattle.trips_isa.specs.declared.block.Block.{Block}
use Rattle.block_cases.specs.CaseRule.{no}
use Rattle.block_cases.specs.Blocks.{form_of, role_of, takes_left, takes_right, is_store, is_load}
use Rattle.block_cases.specs.Blocks.{in_mask}
pub use Rattle.trips_isa.specs.Operands.{is_guarded}

-- what slot s holds
abbrev pub slot_of : Block → ℕ → Option Inst
slot_of b s = slice_index_or b.insts.items s None

-- whether what a slot holds takes a left operand
abbrev pub left_of : Option Inst → Bool
left_of None = false
left_of (Some i) = takes_left (role_of i.op)

-- whether what a slot holds takes a right operand
abbrev pub right_of : Option Inst → Bool
right_of None = false
right_of (Some i) = takes_right (role_of i.op)

-- whether what a slot holds has a predicate
abbrev pub guard_of : Option Inst → Bool
guard_of None = false
guard_of (Some i) = is_guarded i.sense

-- whether a target may be named: an operand or a predicate that is taken, or a declared write
abbrev pub target_good : Block → Spot → Bool
target_good b (spot.Left s) = left_of (slot_of b s)
target_good b (spot.Right s) = right_of (slot_of b s)
target_good b (spot.Pred s) = guard_of (slot_of b s)
target_good b (spot.Write w) = nat_lt w (length b.writes.items)
target_good b _ = false

-- a target that is not there is no fault
abbrev pub targets_good : Block → Option Spot → Bool
targets_good b None = true
targets_good b (Some s) = target_good b s

-- whether a read has a target that it may not name
abbrev pub bad_read_slot : Block → Option ReadSlot → Bool
bad_read_slot b None = false
bad_read_slot b (Some r) = no (target_good b r.first && targets_good b r.second)

-- whether read i has a bad target
abbrev pub bad_read : Block → ℕ → Bool
bad_read b i = bad_read_slot b (slice_get b.reads.items i)

-- whether what a slot holds has a target that it may not name
abbrev pub bad_slot : Block → Option Inst → Bool
bad_slot b None = false
bad_slot b (Some i) = no (targets_good b i.first && targets_good b i.second)

-- whether slot j has a bad target
abbrev pub bad_inst : Block → ℕ → Bool
bad_inst b j = bad_slot b (slot_of b j)

-- whether what a slot holds is the load of number n
abbrev pub loads : Option Inst → ℕ → Bool
loads None n = false
loads (Some i) n = is_load (form_of i.op) && (i.number == n)

-- an earlier load of this number
abbrev pub has_load : List (Option Inst) → ℕ → Bool
has_load [] n = false
has_load (i ∷ is) n = loads i n || has_load is n

-- whether the number of what slot j holds is at fault: a store's is not in the mask, or a load's
-- is, or an earlier load has it
abbrev pub bad_slot_number : Block → ℕ → Option Inst → Bool
bad_slot_number b j None = false
bad_slot_number b j (Some i) =
    (is_store (form_of i.op) && no (in_mask b.mask i.number)) ||
    (is_load (form_of i.op) && (in_mask b.mask i.number || has_load
    (take j b.insts.items) i.number))

-- whether slot j has a bad number
abbrev pub bad_number : Block → ℕ → Bool
bad_number b j = bad_slot_number b j (slot_of b j)

-- whether a number is in a list
abbrev pub has_item : List ℕ → ℕ → Bool
has_item [] n = false
has_item (r ∷ rs) n = (r == n) || has_item rs n

-- an earlier write of the same register
abbrev pub bad_write : Block → ℕ → Bool
bad_write b w = has_item (take w b.writes.items) (slice_index b.writes.items w)

-- no number below n passes a test
abbrev pub NoneBelow : (ℕ → Bool) → ℕ → Type 0
NoneBelow p n = (j : ℕ) → j < n → p j ≡ false

-- no fault of these kinds
pub record IsInOrder (b : Block) : Type 0 where
  -- no read has a bad target
  pub reads : NoneBelow (bad_read b) (length b.reads.items)
  -- no slot has a bad target
  pub insts : NoneBelow (bad_inst b) 128
  -- no load and no store has a bad number
  pub numbers : NoneBelow (bad_number b) 128
  -- no register is written twice
  pub writes : NoneBelow (bad_write b) (length b.writes.items)
