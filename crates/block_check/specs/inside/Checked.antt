-- The fault that the search finds, before it is known as the lowest.
use Rattle.std.specs.Prelude.{◌≡◌, ℕ, ◌-◌, ◌<◌, cond, nat_lt, length}
use Rattle.block_check.specs.declared.fault.NodeFault.{NodeFault}
use Rattle.block_check.specs.declared.fault.NodeFault.TheVariants as net
use Rattle.trips_isa.specs.declared.block.Spot.{Spot}
use Rattle.trips_isa.specs.declared.block.Spot.TheVariants.{Read, Inst, Left, Right, Pred, Write}
use Rattle.trips_isa.specs.declared.block.Spot.TheVariants.{Store}
use Rattle.trips_isa.specs.declared.block.Block.{Block}
use Rattle.trips_isa.specs.PlaceNumbers.{first_write, first_store, exit_place}
use Rattle.block_check.specs.declared.fault.CheckFault.{CheckFault}
use Rattle.block_check.specs.declared.fault.CheckFault.TheVariants.{BadTarget, BadNumber, Cycle}
use Rattle.block_check.specs.declared.fault.CheckFault.TheVariants.{TooManyCases, TwoTokens}
use Rattle.block_check.specs.declared.fault.CheckFault.TheVariants.{NoToken, NoExit, TwoExits}
use Rattle.block_check.specs.inside.Judged.{IsFault}
use Rattle.block_cases.specs.Blocks.{nodes_of, wanted_of}
use Rattle.block_cases.specs.Orders.{bad_read, bad_inst, bad_number, bad_write, NoneBelow}
use Rattle.block_cases.specs.inside.Orders.{IsLeast}
use Rattle.block_cases.specs.Orders.{IsInOrder}

-- the first slot with a bad target, where no read has one
pub record BadInst (b : Block) (j : ℕ) : Type 0 where
  -- bad targets of reads are answered before those of slots
  pub reads : NoneBelow (bad_read b) (length b.reads.items)
  pub inst : IsLeast (bad_inst b) 128 j

-- the first slot with a bad number, where no target is bad
pub record BadInstNumber (b : Block) (j : ℕ) : Type 0 where
  -- no target of a read or a slot is bad
  pub reads : NoneBelow (bad_read b) (length b.reads.items)
  pub insts : NoneBelow (bad_inst b) 128
  pub number : IsLeast (bad_number b) 128 j

-- the first write of a register that an earlier one names, where nothing before it is at fault
pub record BadWrite (b : Block) (w : ℕ) : Type 0 where
  pub reads : NoneBelow (bad_read b) (length b.reads.items)
  pub insts : NoneBelow (bad_inst b) 128
  pub numbers : NoneBelow (bad_number b) 128
  pub write : IsLeast (bad_write b) (length b.writes.items) w

-- this spot has the first bad target
abbrev pub BadTargetAt : Block → Spot → Type 0
BadTargetAt b (Read i) = IsLeast (bad_read b) (length b.reads.items) i
BadTargetAt b (Inst j) = BadInst b j
BadTargetAt b _ = ⊥

-- this spot has the first bad number
abbrev pub BadNumberAt : Block → Spot → Type 0
BadNumberAt b (Inst j) = BadInstNumber b j
BadNumberAt b (Write w) = BadWrite b w
BadNumberAt b _ = ⊥

-- the first fault of a target or a number
abbrev pub IsOrderFault : Block → CheckFault → Type 0
IsOrderFault b (BadTarget s) = BadTargetAt b s
IsOrderFault b (BadNumber s) = BadNumberAt b s
IsOrderFault b _ = ⊥

-- the spot of a place below the exit's
abbrev pub spot_of : ℕ → Spot
spot_of q = cond (nat_lt q 128) (Left q) (cond (nat_lt q 256) (Right (q - 128)) (cond (nat_lt q
    first_write) (Pred (q - 256)) (cond (nat_lt q first_store) (Write (q - first_write)) (Store (q - first_store)))))

-- a fault of the nodes, with its place as a spot
abbrev pub fault_of : NodeFault → CheckFault
fault_of net.Cycle = Cycle
fault_of net.TooManyCases = TooManyCases
fault_of (net.TwoTokens q) = TwoTokens (spot_of q)
fault_of (net.NoToken q) = NoToken (spot_of q)
fault_of net.NoExit = NoExit
fault_of net.TwoExits = TwoExits

-- a fault of the third to the eighth kind
pub record IsCaseFault (b : Block) (f : CheckFault) : Type 0 where
  -- no fault of the first two kinds, of targets and numbers, is there
  pub in_order : IsInOrder b
  pub fault : NodeFault
  -- the first fault of the block's nodes
  pub is_fault : IsFault (nodes_of b) (wanted_of b) fault
  pub said : f ≡ fault_of fault

-- the fault that is found first
abbrev pub IsCheckFault : Block → CheckFault → Type 0
IsCheckFault b (BadTarget s) = BadTargetAt b s
IsCheckFault b (BadNumber s) = BadNumberAt b s
IsCheckFault b f = IsCaseFault b f

-- the place that a fault names, if it names one, is the place of a spot
abbrev pub IsBelow : NodeFault → Type 0
IsBelow (net.TwoTokens q) = q < exit_place
IsBelow (net.NoToken q) = q < exit_place
IsBelow _ = Unit {0}
