-- Which operations can fault: of all others a token has a mark only where an operand or the predicate has one.
use Rattle.std.specs.Prelude.{Bool, true, false}
use Rattle.trips_isa.specs.declared.op.Op.{Op}
use Rattle.trips_isa.specs.declared.form.Form.{Form}
use Rattle.trips_isa.specs.declared.form.Form.TheVariants.{General, Load, Store}
use Rattle.trips_isa.specs.Forms.{form_of}
use Rattle.trips_isa.specs.Faults.{divides}

-- whether an operation of a form can fault: a division, a load and a store can
abbrev pub can_fault_in : Form → Op → Bool
can_fault_in General op = divides op
can_fault_in Load op = true
can_fault_in Store op = true
can_fault_in _ op = false

-- whether an operation can fault
abbrev pub can_fault : Op → Bool
can_fault op = can_fault_in (form_of op) op
