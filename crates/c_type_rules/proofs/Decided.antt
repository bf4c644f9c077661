-- A unit is accepted or has a fault.
use Rattle.std.proofs.Common.{◌≡◌, ◌⊎◌, inl, inr, Some, None, refl}
use Rattle.c_tree.specs.declared.tree.Program.{Program}
use Rattle.c_tree.specs.declared.typed.TypedProgram.{TypedProgram}
use Rattle.c_type_expr.specs.declared.fault.TypeFault.{TypeFault}
use Rattle.c_type_expr.specs.Blames.{Blame}
use Rattle.c_type.specs.inside.Programs.{program_fault, program_tree}
use Rattle.c_type_rules.specs.FirstFaults.{UnitFails}
use Rattle.c_type_rules.specs.Units.{Accepts}
use Rattle.c_type_rules.proofs.GoodUnits.{unit_good}
use Rattle.c_type_rules.proofs.UnitsComplete.{accepts_typed}

decided_by : (p : Program) (o : Blame) → program_fault p ≡ o
    → ((t : TypedProgram) × Accepts p t) ⊎ ((f : TypeFault) × UnitFails p f)
decided_by p None e = inl (program_tree p, accepts_typed p e)
decided_by p (Some f) e = inr (f, unit_good p f e)

-- a program is accepted with a typed program, or has a fault
pub decided : (p : Program) → ((t : TypedProgram) × Accepts p t) ⊎ ((f : TypeFault) × UnitFails p f)
decided p = decided_by p (program_fault p) refl
