-- That lowering keeps plain ifs as small ones, and that the lists of kept variables change none.
use Rattle.std.specs.Prelude.{◌≡◌, ℕ, ◌≤◌, List}
use Rattle.c_tree.specs.declared.TypedProgram.{TypedProgram}
use Rattle.ir_forms.specs.inside.FlatCode.{Program}
use Rattle.ir_forms.specs.inside.FlatFits.{small_ifs_of_all}
use Rattle.flat_lower.specs.inside.Statements.{lowered_program}
use Rattle.reg_assign.specs.inside.Keeps.{assigned_program}
use Rattle.c_compile_laws.specs.PlainIfs.{plain_ifs}

-- each plain if becomes a small one: its legs are each empty or one operation, and not both empty
abbrev pub LowersPlainIfs : Type 0
LowersPlainIfs =
    (P : TypedProgram) → plain_ifs P ≤ small_ifs_of_all (lowered_program P).functions

-- what calls keep is no matter of ifs
abbrev pub AssignsSmallIfs : Type 0
AssignsSmallIfs =
    (P : Program) (lists : List (List ℕ))
    → small_ifs_of_all (assigned_program P lists).functions ≡ small_ifs_of_all P.functions

-- so each plain if is a small one of the program whose calls keep what the lists say
abbrev pub AssignsPlainIfs : Type 0
AssignsPlainIfs =
    (P : TypedProgram) (lists : List (List ℕ))
    → plain_ifs P ≤ small_ifs_of_all (assigned_program (lowered_program P) lists).functions
