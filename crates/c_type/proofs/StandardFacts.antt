-- The definitions at small units: their first faults, and what they declare.
use Rattle.std.proofs.Common.{◌≡◌, ℕ, true, false, Some, None, List, [], ◌∷◌, refl}
use Rattle.c_tree.specs.declared.token.Kind.TheVariants.{Char, Int, UInt, Long}
use Rattle.c_tree.specs.declared.tree.ArraySize.TheVariants as size
use Rattle.c_tree.specs.declared.tree.Param.{Param}
use Rattle.c_tree.specs.declared.tree.Program.{Program}
use Rattle.c_tree.specs.declared.tree.Top.{Top}
use Rattle.c_tree.specs.declared.tree.TopNode.{TopNode}
use Rattle.c_tree.specs.declared.tree.TopNode.TheVariants.{Include, Global, Func}
use Rattle.c_tree.specs.declared.typed.Callee.TheVariants as callee
use Rattle.c_tree.specs.declared.typed.Slot.TheVariants as slot
use Rattle.c_type_expr.specs.declared.meaning.Meaning.TheVariants as meaning
use Rattle.c_type_expr.specs.Scope.{look_up}
use Rattle.c_type_expr.specs.declared.fault.TypeFault.TheVariants.{NoMain, Twice, Mismatch, TooManyParams}
use Rattle.c_constant.specs.Kinds.{bytes, converted}
use Rattle.c_type.specs.Statements.{label_among}
use Rattle.c_type.specs.States.{in_switch, nowhere}
use Rattle.c_type.specs.Units.{same_slots, included}
use Rattle.c_type.specs.FileScopes.{eof_name, getchar_name, putchar_name, exit_name, main_name}
use Rattle.c_type.specs.Programs.{table}
use Rattle.c_type.specs.inside.Programs.{program_fault}

abbrev at : ℕ → TopNode → Top
at l n = record { offset = l; node = n }

abbrev unit : List Top → Program
unit ts = record { items = ts }

-- an int named `x`, without a value
abbrev x : ℕ → Top
x l = at l (Global Int (120 ∷ []) size.Scalar [])

-- a prototype of type int with these parameters
abbrev prototype : ℕ → List ℕ → List Param → Top
prototype l w params = at l (Func (Some Int) w params None)

-- a parameter of type int without a name
abbrev int : Param
int = record { offset = 1; kind = Int; name = None; size = size.Scalar }

abbrev eight : List Param
eight = int ∷ int ∷ int ∷ int ∷ int ∷ int ∷ int ∷ int ∷ []

no_item : program_fault (unit []) ≡ Some NoMain
no_item = refl

main_is_declared : program_fault (unit (prototype 1 main_name [] ∷ [])) ≡ Some NoMain
main_is_declared = refl

include_twice : program_fault (unit (at 1 Include ∷ at 2 Include ∷ [])) ≡ Some NoMain
include_twice = refl

ending_twice : program_fault (unit (at 1 Include ∷ at 7 (Global Int eof_name size.Scalar []) ∷ [])) ≡ Some (Twice 7)
ending_twice = refl

-- the include stands for a prototype that agrees
getchar_agrees : program_fault (unit (prototype 1 getchar_name [] ∷ at 2 Include ∷ [])) ≡ Some NoMain
getchar_agrees = refl

putchar_differs : program_fault (unit (at 1 Include ∷ prototype 2 putchar_name [] ∷ [])) ≡ Some (Mismatch 2)
putchar_differs = refl

global_twice : program_fault (unit (x 1 ∷ x 2 ∷ [])) ≡ Some (Twice 2)
global_twice = refl

no_value : program_fault (unit (at 3 (Global Char (120 ∷ []) size.Open []) ∷ [])) ≡ Some (Mismatch 3)
no_value = refl

eight_params : program_fault (unit (prototype 1 (102 ∷ []) eight ∷ [])) ≡ Some NoMain
eight_params = refl

nine_params : program_fault (unit (prototype 1 (102 ∷ []) (int ∷ eight) ∷ [])) ≡ Some (TooManyParams 1)
nine_params = refl

params_differ : program_fault (unit (prototype 1 (102 ∷ []) [] ∷ prototype 2 (102 ∷ []) (int ∷ []) ∷ []))
    ≡ Some (Mismatch 2)
params_differ = refl

include_defines : look_up (table (at 1 Include ∷ [])) getchar_name
    ≡ Some (meaning.Function (Some Int) [] (Some callee.GetChar) true)
include_defines = refl

-- it defines what ends the whole run, and declares it of one long and without a result
exit_defined : look_up (table (at 1 Include ∷ [])) exit_name
    ≡ Some (meaning.Function None (slot.Scalar Long ∷ []) (Some callee.Exit) true)
exit_defined = refl

exit_declared : look_up (included ([] ∷ [])) exit_name
    ≡ Some (meaning.Function None (slot.Scalar Long ∷ []) (Some callee.Exit) true)
exit_declared = refl

ending_declared : look_up (included ([] ∷ [])) eof_name ≡ Some meaning.EndOfFile
ending_declared = refl

long_bytes : bytes Long ≡ 8
long_bytes = refl

addresses_are_no_scalars : same_slots (slot.Scalar Int ∷ []) (slot.Address Int None ∷ []) ≡ false
addresses_are_no_scalars = refl

signs_differ : same_slots (slot.Scalar Int ∷ []) (slot.Scalar UInt ∷ []) ≡ false
signs_differ = refl

-- arrays of rows of three and of four elements, and of one size
rows_differ : same_slots (slot.Address Int (Some 3) ∷ []) (slot.Address Int (Some 4) ∷ []) ≡ false
rows_differ = refl

sizes_differ : same_slots (slot.Address Int (Some 3) ∷ []) (slot.Address Int None ∷ []) ≡ false
sizes_differ = refl

-- `case -1:` behind `case 4294967295u:` in an unsigned switch, and a second `default`
same_value : label_among (Some (converted UInt 18446744073709551615)) (Some 4294967295 ∷ []) ≡ true
unfolding converted
same_value = refl

second_default : label_among None (Some 0 ∷ None ∷ []) ≡ true
second_default = refl

-- a `continue` in a switch in no loop, and a `break` there
no_loop : (in_switch nowhere).may_continue ≡ false
no_loop = refl

leaves_switch : (in_switch nowhere).may_break ≡ true
leaves_switch = refl
