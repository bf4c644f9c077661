-- What the file scope has of the include, of globals and of functions (C17 6.7, 6.9).
use Rattle.std.specs.Prelude.{ℕ, true, length, List, [], ◌∷◌, ◌++◌, Option, Some, None, codes, Bool, false, cond, map}
use Rattle.std.specs.Prelude.{is_some, ◌+◌}
use Rattle.c_tree.specs.declared.token.Kind.{Kind}
use Rattle.c_tree.specs.declared.token.Kind.TheVariants.{Int, Long}
use Rattle.c_tree.specs.declared.tree.ArraySize.{ArraySize}
use Rattle.c_tree.specs.declared.tree.ArraySize.TheVariants as size
use Rattle.c_tree.specs.declared.tree.Expr.{Expr}
use Rattle.c_tree.specs.declared.typed.Callee.TheVariants as callee
use Rattle.c_tree.specs.declared.typed.Place.TheVariants as place
use Rattle.c_tree.specs.declared.typed.Slot.{Slot}
use Rattle.c_tree.specs.declared.typed.Slot.TheVariants as slot
use Rattle.c_type_expr.specs.declared.meaning.Meaning.{Meaning}
use Rattle.c_type_expr.specs.declared.meaning.Meaning.TheVariants as meaning
use Rattle.c_type_expr.specs.Scope.{Scope, declared_in, bound, look_up}
use Rattle.c_type.specs.declared.file_scope.FileScope.{FileScope}
use Rattle.c_type.specs.States.{row_in, slot_of, started, with_params}
use Rattle.c_tree.specs.declared.typed.Callee.{Callee}
use Rattle.c_tree.specs.declared.tree.Param.{Param}
use Rattle.c_type.specs.declared.state.State.{State}
use Rattle.c_tree.specs.declared.tree.TopNode.{TopNode}
use Rattle.c_tree.specs.declared.tree.TopNode.TheVariants.{Func}

-- the name `EOF`
abbrev pub eof_name : List ℕ
eof_name = codes "EOF"

-- the name `getchar`
abbrev pub getchar_name : List ℕ
getchar_name = codes "getchar"

-- the name `putchar`
abbrev pub putchar_name : List ℕ
putchar_name = codes "putchar"

-- the name of what ends the whole run, which no text can have
abbrev pub exit_name : List ℕ
exit_name = codes "exit.now"

-- one int as a parameter
abbrev pub int_slots : List Slot
int_slots = slot.Scalar Int ∷ []

-- one long as a parameter
abbrev pub long_slots : List Slot
long_slots = slot.Scalar Long ∷ []

-- the function `getchar`
abbrev pub get_char : Meaning
get_char = meaning.Function (Some Int) [] (Some callee.GetChar) true

-- the function `putchar`
abbrev pub put_char : Meaning
put_char = meaning.Function (Some Int) int_slots (Some callee.PutChar) true

-- what ends the whole run with the value of its argument (C17 7.22.4.1, 7.22.4.4): a long, so that one beyond the
-- ints can say that the program has aborted
abbrev pub exit_now : Meaning
exit_now = meaning.Function None long_slots (Some callee.Exit) true

-- the names after the functions of the include
abbrev pub with_functions : Scope → Scope
with_functions G =
    declared_in (bound exit_name exit_now)
    (declared_in (bound putchar_name put_char) (declared_in (bound getchar_name get_char) G))

-- the names after the first include
abbrev pub with_include : Scope → Scope
with_include G = declared_in (bound eof_name meaning.EndOfFile) (with_functions G)

-- the values of all lists, in the order of the text
abbrev pub all_values : List (List Expr) → List Expr
all_values [] = []
all_values (es ∷ ess) = es ++ all_values ess

-- what the name of a global means
abbrev pub global_meaning : ArraySize → Kind → ℕ → Meaning
global_meaning size.Scalar k n = meaning.Scalar k (place.Global n)
global_meaning s k n = meaning.Array k (row_in s) (place.Global n)

-- an array has a length
abbrev pub length_in : ArraySize → ℕ → Option ℕ
length_in size.Scalar n = None
length_in _ n = Some n

-- the names after a global
abbrev pub global_names : ArraySize → Kind → List ℕ → FileScope → Scope
global_names size k w U = declared_in (bound w (global_meaning size k (length U.globals))) U.names

-- the names after a prototype or a definition, of this callee, name, result and parameters
abbrev pub function_names : Option Callee → List ℕ → Option Kind → List Slot → Bool → Scope → Scope
function_names c w given slots defined G =
    declared_in (bound w (meaning.Function given slots c defined)) G

-- the names after a prototype: one that is repeated declares nothing
abbrev pub prototype_names : Option Callee → List ℕ → Option Kind → List Slot → Scope → Scope
prototype_names c w given slots G =
    cond (is_some (look_up G w)) G (function_names c w given slots false G)

-- the state in which the body of a function begins, of which a call calls that callee
abbrev pub body_entry : Option Callee → List ℕ → Option Kind → List Param → Scope → State
body_entry c w given params G =
    with_params params (started (function_names c w given (map slot_of params) true G) given)

-- how many definitions there are behind an item
abbrev pub count_after : TopNode → ℕ → ℕ
count_after (Func given w params (Some body)) n = n + 1
count_after _ n = n

-- the name `main`
abbrev pub main_name : List ℕ
main_name = codes "main"

-- the number of the function that is called
abbrev pub number_in : Option Callee → ℕ
number_in (Some (callee.Func n)) = n
number_in _ = 0

-- the file scope of no item
abbrev pub empty_file : FileScope
empty_file = record { names = [] ∷ []; globals = []; bytes = 0; functions = [] }
