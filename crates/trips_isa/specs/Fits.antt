-- Blocks and images whose fields lie in their fields: the width of each, and none that a form does
-- not have. Source: a block of 128 instructions, 32 reads, 32 writes and 32 numbers of loads and
-- stores, TRIPS Processor Reference Manual, UT Austin TR-05-19. Own: the width of each field.
use Rattle.std.specs.Prelude.{◌≡◌, ℕ, ◌^◌, ◌<◌, ◌≤◌, ℤ, pos, negsuc, Option, Some, None, All}
use Rattle.std.specs.Prelude.{length}
use Rattle.trips_isa.specs.declared.op.Op.{Op}
use Rattle.trips_isa.specs.declared.op.Op.TheVariants.{Bro, Callo, Gens}
use Rattle.trips_isa.specs.declared.form.Form.{Form}
use Rattle.trips_isa.specs.declared.form.Form.TheVariants.{General, Immediate, Load, Store, Branch}
use Rattle.trips_isa.specs.declared.form.Form.TheVariants.{Constant}
use Rattle.trips_isa.specs.declared.block.Sense.TheVariants.{Always}
use Rattle.trips_isa.specs.declared.block.Spot.{Spot}
use Rattle.trips_isa.specs.declared.block.Spot.TheVariants as spot
use Rattle.trips_isa.specs.declared.block.Inst.{Inst}
use Rattle.trips_isa.specs.declared.block.ReadSlot.{ReadSlot}
use Rattle.trips_isa.specs.declared.block.Block.{Block}
use Rattle.trips_isa.specs.Forms.{form_of}
use Rattle.trips_isa.specs.Limits.{offset_half}

-- a target of an instruction: a write, or a predicate or an operand of a slot
abbrev pub FitsTarget : Option Spot → Type 0
FitsTarget None = Unit {0}
FitsTarget (Some (spot.Write w)) = w < 32
FitsTarget (Some (spot.Pred s)) = s < 128
FitsTarget (Some (spot.Left s)) = s < 128
FitsTarget (Some (spot.Right s)) = s < 128
FitsTarget (Some s) = ⊥

-- no second target without a first
abbrev pub FitsTargets : Option Spot → Option Spot → Type 0
FitsTargets None second = second ≡ None
FitsTargets (Some s) second = Unit {0}

-- from -half to half - 1
abbrev pub FitsSigned : ℕ → ℤ → Type 0
FitsSigned half (pos n) = n < half
FitsSigned half (negsuc n) = n < half

-- an offset other than 0 stands only where the next block is named by it
abbrev pub FitsOffset : Op → ℤ → Type 0
FitsOffset Bro offset = FitsSigned offset_half offset
FitsOffset Callo offset = FitsSigned offset_half offset
FitsOffset op offset = offset ≡ pos 0

-- from 0 to values - 1
abbrev pub FitsUnsigned : ℕ → ℤ → Type 0
FitsUnsigned values (pos n) = n < values
FitsUnsigned values (negsuc n) = ⊥

-- only the constant of `gens` has a sign
abbrev pub FitsConstant : Op → ℤ → Type 0
FitsConstant Gens constant = FitsSigned 32768 constant
FitsConstant op constant = FitsUnsigned 65536 constant

-- an instruction without targets
pub record FitsNoTarget (i : Inst) : Type 0 where
  pub first : i.first ≡ None
  pub second : i.second ≡ None

-- an instruction with at most one target
pub record FitsOneTarget (i : Inst) : Type 0 where
  pub first : FitsTarget i.first
  pub second : i.second ≡ None

-- an instruction with at most two targets, and no second without a first
pub record FitsTwoTargets (i : Inst) : Type 0 where
  pub first : FitsTarget i.first
  pub second : FitsTarget i.second
  pub order : FitsTargets i.first i.second

-- the fields of an instruction of a form are in their widths, and those that the form does not have
-- are 0
abbrev pub FitsForm : Form → Inst → Type 0
FitsForm General i = FitsTwoTargets i × (i.imm ≡ pos 0) × (i.number ≡ 0)
FitsForm Immediate i = FitsOneTarget i × FitsSigned 256 i.imm × (i.number ≡ 0)
FitsForm Load i = FitsOneTarget i × FitsSigned 256 i.imm × (i.number < 32)
FitsForm Store i = FitsNoTarget i × FitsSigned 256 i.imm × (i.number < 32)
FitsForm Branch i = FitsNoTarget i × FitsOffset i.op i.imm × (i.number < 8)
FitsForm Constant i = FitsOneTarget i × FitsConstant i.op i.imm × (i.number ≡ 0)
    × (i.sense ≡ Always)

-- an instruction fits by the form of its operation
abbrev pub FitsInst : Inst → Type 0
FitsInst i = FitsForm (form_of i.op) i

-- an empty slot fits
abbrev pub FitsSlot : Option Inst → Type 0
FitsSlot None = Unit {0}
FitsSlot (Some i) = FitsInst i

-- a target of a read: an operand of a slot
abbrev pub FitsOperand : Spot → Type 0
FitsOperand (spot.Left s) = s < 128
FitsOperand (spot.Right s) = s < 128
FitsOperand s = ⊥

-- two targets are two different ones
abbrev pub FitsSecond : Spot → Option Spot → Type 0
FitsSecond first None = Unit {0}
FitsSecond first (Some s) = FitsOperand s × (s ≡ first → ⊥)

-- a read names one of the 128 registers and one or two operands
pub record FitsRead (r : ReadSlot) : Type 0 where
  pub register : r.register < 128
  pub first : FitsOperand r.first
  pub second : FitsSecond r.first r.second

-- a block has its 128 slots, at most 32 reads and 32 writes, and all its fields fit
pub record FitsBlock (b : Block) : Type 0 where
  pub reads : length b.reads.items ≤ 32
  pub each_read : All FitsRead b.reads.items
  pub writes : length b.writes.items ≤ 32
  pub each_write : All (λ r. r < 128) b.writes.items
  -- bit n is set where the block resolves store number n
  pub mask : b.mask < 2 ^ 32
  pub insts : length b.insts.items ≡ 128
  pub each_inst : All FitsSlot b.insts.items
