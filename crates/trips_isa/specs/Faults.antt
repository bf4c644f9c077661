-- The faults of operations, as marks: the number of the cause, and none where nothing faults. Own
-- (docs/MACHINE.md, "Exceptions"): which operations fault.
use Rattle.std.specs.Prelude.{ℕ, ◌+◌, ◌%◌, Bool, true, false, cond, ◌==◌, ◌&&◌, nat_eq, nat_le}
use Rattle.std.specs.Prelude.{Option, Some, None}
use Rattle.trips_isa.specs.declared.op.Op.{Op}
use Rattle.trips_isa.specs.declared.op.Op.TheVariants.{Divs, Divu}
use Rattle.trips_isa.specs.declared.form.Form.{Form}
use Rattle.trips_isa.specs.declared.form.Form.TheVariants.{General, Immediate, Load, Store, Branch}
use Rattle.trips_isa.specs.declared.form.Form.TheVariants.{Constant}
use Rattle.trips_isa.specs.declared.block.Inst.{Inst}
use Rattle.trips_isa.specs.declared.block.Block.{Block}
use Rattle.trips_isa.specs.declared.causes.TrapCause.TheVariants.{DivisionByZero, Misaligned, OutsideMemory}
use Rattle.trips_isa.specs.TrapCauses.{number_of, no_mark}
use Rattle.trips_isa.specs.Forms.{form_of, size_of}
use Rattle.trips_isa.specs.Stores.{data_size, address_of}
use Rattle.trips_isa.specs.Blocks.{is_read, inst_at}

-- whether an operation divides by its right operand
abbrev pub divides : Op → Bool
divides Divs = true
divides Divu = true
divides _ = false

-- whether an operation on words faults, by its right operand
abbrev pub is_bad_divisor : Op → ℕ → Bool
is_bad_divisor op b = divides op && nat_eq b 0

-- the mark of an operation on words: a division by zero is the only fault
abbrev pub fault_of : Op → ℕ → ℕ → ℕ
fault_of op a b = cond (is_bad_divisor op b) (number_of DivisionByZero) no_mark

-- the mark of an access: misaligned where the address is no multiple of the size, else outside memory
-- where a byte of the access lies outside data memory
abbrev pub fault_at : ℕ → ℕ → ℕ
fault_at address size = cond (address % size == 0)
    (cond (nat_le (address + size) data_size) no_mark (number_of OutsideMemory))
    (number_of Misaligned)

-- the mark of an instruction of a form, of its operands' words: only a general operation divides,
-- and only a load or a store has an address
abbrev pub fault_in : Form → Inst → ℕ → ℕ → ℕ
fault_in General i l r = fault_of i.op l r
fault_in Immediate i l r = no_mark
fault_in Constant i l r = no_mark
fault_in Branch i l r = no_mark
fault_in Load i l r = fault_at (address_of i l) (size_of i.op)
fault_in Store i l r = fault_at (address_of i l) (size_of i.op)

-- an instruction's own fault, of its operands' words
abbrev pub own_fault : Option Inst → ℕ → ℕ → ℕ
own_fault None l r = no_mark
own_fault (Some i) l r = fault_in (form_of i.op) i l r

-- a read does not fault
abbrev pub fault_if_read : Bool → Option Inst → ℕ → ℕ → ℕ
fault_if_read true i l r = no_mark
fault_if_read false i l r = own_fault i l r

-- the own fault of node x of a block
abbrev pub node_fault : Block → ℕ → ℕ → ℕ → ℕ
node_fault b x l r = fault_if_read (is_read b x) (inst_at b x) l r
