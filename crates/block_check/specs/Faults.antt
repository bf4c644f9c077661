-- The faults that a block has, the order in which they are answered, and good blocks.
use Rattle.std.specs.Prelude.{◌≡◌, ℕ, ◌+◌, ◌<◌, ◌≤◌, true, length}
use Rattle.trips_isa.specs.declared.block.Spot.{Spot}
use Rattle.trips_isa.specs.declared.block.Spot.TheVariants.{Read, Inst, Left, Right, Pred, Write}
use Rattle.trips_isa.specs.declared.block.Spot.TheVariants.{Store}
use Rattle.trips_isa.specs.declared.block.Block.{Block}
use Rattle.trips_isa.specs.PlaceNumbers.{exit_place}
use Rattle.block_cases.specs.Nodes.{HasCycle}
use Rattle.block_cases.specs.Cases.{cases, GetsTwo, GetsNone}
use Rattle.block_cases.specs.Blocks.{place_of, in_mask, nodes_of}
use Rattle.block_check.specs.declared.fault.CheckFault.{CheckFault}
use Rattle.block_check.specs.declared.fault.CheckFault.TheVariants.{BadTarget, BadNumber, Cycle}
use Rattle.block_check.specs.declared.fault.CheckFault.TheVariants.{TooManyCases, TwoTokens}
use Rattle.block_check.specs.declared.fault.CheckFault.TheVariants.{NoToken, NoExit, TwoExits}
use Rattle.block_cases.specs.Orders.{bad_read, bad_inst, bad_number, bad_write}

-- the read or the slot names a target that it may not name
abbrev pub HasBadTarget : Block → Spot → Type 0
HasBadTarget b (Read i) = (i < length b.reads.items) × (bad_read b i ≡ true)
HasBadTarget b (Inst j) = (j < 128) × (bad_inst b j ≡ true)
HasBadTarget b _ = ⊥

-- the slot has a number, or the write a register, that it may not have
abbrev pub HasBadNumber : Block → Spot → Type 0
HasBadNumber b (Inst j) = (j < 128) × (bad_number b j ≡ true)
HasBadNumber b (Write w) = (w < length b.writes.items) × (bad_write b w ≡ true)
HasBadNumber b _ = ⊥

-- an operand, a predicate, a write or a store number
abbrev pub TakesTokens : Spot → Type 0
TakesTokens (Left s) = s < 128
TakesTokens (Right s) = s < 128
TakesTokens (Pred s) = s < 128
TakesTokens (Write w) = w < 32
TakesTokens (Store n) = n < 32
TakesTokens _ = ⊥

-- a declared write or a number of the mask
abbrev pub IsOwed : Block → Spot → Type 0
IsOwed b (Write w) = w < length b.writes.items
IsOwed b (Store n) = in_mask b.mask n ≡ true
IsOwed b _ = ⊥

-- the faults that a block has, each at each of its spots
abbrev pub HasFault : Block → CheckFault → Type 0
HasFault b (BadTarget s) = HasBadTarget b s
HasFault b (BadNumber s) = HasBadNumber b s
HasFault b Cycle = HasCycle (nodes_of b)
HasFault b TooManyCases = 256 < cases (nodes_of b)
HasFault b (TwoTokens s) = TakesTokens s × GetsTwo (nodes_of b) (place_of s)
HasFault b (NoToken s) = IsOwed b s × GetsNone (nodes_of b) (place_of s)
HasFault b NoExit = GetsNone (nodes_of b) exit_place
HasFault b TwoExits = GetsTwo (nodes_of b) exit_place

-- spots stand in the order of their variants, then of their numbers
abbrev pub spot_order : Spot → ℕ
spot_order (Read i) = i
spot_order (Inst j) = 256 + j
spot_order (Left s) = 512 + s
spot_order (Right s) = 768 + s
spot_order (Pred s) = 1024 + s
spot_order (Write w) = 1280 + w
spot_order (Store n) = 1536 + n

-- faults stand in the order of their numbers, then of their spots
abbrev pub fault_order : CheckFault → ℕ
fault_order (BadTarget s) = 2048 + spot_order s
fault_order (BadNumber s) = 4096 + spot_order s
fault_order Cycle = 6144
fault_order TooManyCases = 8192
fault_order (TwoTokens s) = 10240 + spot_order s
fault_order (NoToken s) = 12288 + spot_order s
fault_order NoExit = 14336
fault_order TwoExits = 16384

-- the fault of the lowest number, at its least spot
pub record IsLowestFault (b : Block) (f : CheckFault) : Type 0 where
  -- the block has it
  pub holds : HasFault b f
  -- and none of a lower number, nor of this number at a lesser spot
  pub lowest : (g : CheckFault) → HasFault b g → fault_order f ≤ fault_order g

-- no fault holds
abbrev pub IsGood : Block → Type 0
IsGood b = (f : CheckFault) → HasFault b f → ⊥
