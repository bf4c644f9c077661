-- File scope (C17 6.7, 6.9): the include, globals and the signatures of functions.
use Rattle.std.specs.Prelude.{ℕ, ◌+◌, ◌-◌, ◌*◌, replicate, Bool, true, false, cond, not, ◌&&◌, nat_le}
use Rattle.std.specs.Prelude.{length, List, [], ◌∷◌, ◌++◌, map, Option, Some, None}
use Rattle.c_tree.specs.Limits.{most_object_bytes}
use Rattle.c_tree.specs.declared.token.Kind.{Kind}
use Rattle.c_tree.specs.declared.token.Kind.TheVariants.{Int}
use Rattle.c_tree.specs.declared.tree.ArraySize.{ArraySize}
use Rattle.c_tree.specs.declared.tree.ArraySize.TheVariants as size
use Rattle.c_tree.specs.declared.tree.Expr.{Expr}
use Rattle.c_tree.specs.declared.typed.Callee.TheVariants as callee
use Rattle.c_tree.specs.declared.typed.Slot.{Slot}
use Rattle.c_tree.specs.declared.typed.Slot.TheVariants as slot
use Rattle.c_tree.specs.declared.typed.TypedGlobal.{TypedGlobal}
use Rattle.c_constant.specs.Kinds.{same_kind}
use Rattle.c_type_expr.specs.declared.meaning.Meaning.{Meaning}
use Rattle.c_type_expr.specs.declared.meaning.Meaning.TheVariants as meaning
use Rattle.c_type_expr.specs.Scope.{Scope, look_up}
use Rattle.c_type_expr.specs.declared.fault.TypeFault.TheVariants.{Twice, Mismatch, TooLarge}
use Rattle.c_type_expr.specs.Roles.{same_row}
use Rattle.c_type_expr.specs.Blames.{Blame, first, unless}
use Rattle.c_type_expr.specs.Constants.{constant_at}
use Rattle.c_constant.specs.Constant.{length_of, word_in}
use Rattle.c_type.specs.declared.file_scope.FileScope.{FileScope}
use Rattle.c_constant.specs.Kinds.{bytes}
use Rattle.c_type.specs.Declarations.{twice_fault}
use Rattle.c_type.specs.States.{is_end, row_in}
use Rattle.c_type.specs.FileScopes.{all_values, eof_name, getchar_name, global_names, int_slots, length_in, long_slots}
use Rattle.c_type.specs.FileScopes.{putchar_name, exit_name, with_include}

-- FUNCTIONS

-- are the parameters of one type?
abbrev pub same_slot : Slot → Slot → Bool
same_slot (slot.Scalar j) (slot.Scalar k) = same_kind j k
same_slot (slot.Address j p) (slot.Address k q) = same_kind j k && same_row p q
same_slot _ _ = false

-- are they, one by one?
abbrev pub same_slots : List Slot → List Slot → Bool
same_slots [] [] = true
same_slots (s ∷ ss) (t ∷ ts) = same_slot s t && same_slots ss ts
same_slots _ _ = false

-- are the results of one type?
abbrev pub same_result : Option Kind → Option Kind → Bool
same_result None None = true
same_result (Some j) (Some k) = same_kind j k
same_result _ _ = false

-- a name that stands for something else, or a second definition
abbrev pub defined_fault : Bool → Option Meaning → ℕ → Blame
defined_fault is_def None l = None
defined_fault is_def (Some (meaning.Function result params callee defined)) l =
    unless (not (is_def && defined)) (Twice l)
defined_fault is_def (Some _) l = Some (Twice l)

-- declarations of one function that do not agree
abbrev pub type_fault : Option Kind → List Slot → Option Meaning → ℕ → Blame
type_fault given slots (Some (meaning.Function result params callee defined)) l =
    unless (same_result result given && same_slots params slots) (Mismatch l)
type_fault given slots _ l = None

-- what of a function fails itself: Twice before Mismatch
abbrev pub function_fault : Bool → Option Kind → List Slot → Option Meaning → ℕ → Blame
function_fault is_def given slots m l =
    first (defined_fault is_def m l) (type_fault given slots m l)

-- INCLUDE

-- at one place the fault of the lowest number is answered: Twice before Mismatch
abbrev pub include_clash : Scope → ℕ → Blame
include_clash G l =
    first (defined_fault true (look_up G getchar_name) l)
    (first (defined_fault true (look_up G putchar_name) l)
    (first (defined_fault true (look_up G exit_name) l)
    (first (twice_fault G eof_name l)
    (first (type_fault (Some Int) [] (look_up G getchar_name) l)
    (first (type_fault (Some Int) int_slots (look_up G putchar_name) l)
    (type_fault None long_slots (look_up G exit_name) l))))))

-- a second include declares nothing
abbrev pub include_fault : Scope → ℕ → Blame
include_fault G l = cond (is_end (look_up G eof_name)) None (include_clash G l)

-- the names after an include
abbrev pub included : Scope → Scope
included G = cond (is_end (look_up G eof_name)) G (with_include G)

-- GLOBALS

-- the globals have at most 1,048,576 bytes, an array no more
abbrev pub place_fault : ℕ → Kind → List ℕ → ℕ → FileScope → Blame
place_fault n k w l U =
    first (twice_fault U.names w l) (unless (nat_le (n * bytes k + U.bytes) most_object_bytes) (TooLarge l))

-- how many rows a global has, 1 where it has one size or none: empty first brackets of two have as many
-- as are given
abbrev pub global_rows : ArraySize → List (List Expr) → ℕ
global_rows (size.Rows None e) init = length init
global_rows (size.Rows (Some r) e) init = word_in (length_of r)
global_rows _ init = 1

-- how many values each holds: empty brackets have the length of the list
abbrev pub row_length : ArraySize → List (List Expr) → ℕ
row_length size.Scalar init = 1
row_length size.Open init = length (all_values init)
row_length (size.Sized e) init = word_in (length_of e)
row_length (size.Rows o e) init = word_in (length_of e)

-- how many values a global holds
abbrev pub count_of : ArraySize → List (List Expr) → ℕ
count_of s init = global_rows s init * row_length s init

-- the words of a row, with zeros behind them up to its length
abbrev pub row_words : Kind → ℕ → List Expr → List ℕ
row_words k n es = map (constant_at k) es ++ replicate (n - length es) 0

-- the words of rows
abbrev pub rows_words : Kind → ℕ → List (List Expr) → List ℕ
rows_words k n [] = []
rows_words k n (es ∷ ess) = row_words k n es ++ rows_words k n ess

-- the words that a global begins with: whole rows, where it has two sizes
abbrev pub init_words : ArraySize → Kind → List (List Expr) → List ℕ
init_words (size.Rows o e) k init = rows_words k (word_in (length_of e)) init
init_words _ k init = map (constant_at k) (all_values init)

-- has no row more values than its length?
abbrev pub rows_fit : ℕ → List (List Expr) → Bool
rows_fit n [] = true
rows_fit n (es ∷ ess) = nat_le (length es) n && rows_fit n ess

-- are there no more values than the global holds, and no more rows?
abbrev pub init_fits : ArraySize → List (List Expr) → Bool
init_fits (size.Rows None e) init = rows_fit (word_in (length_of e)) init
init_fits (size.Rows (Some r) e) init =
    nat_le (length init) (word_in (length_of r)) && rows_fit (word_in (length_of e)) init
init_fits s init = nat_le (length (all_values init)) (count_of s init)

-- the typed global
abbrev pub typed_global : ArraySize → Kind → List (List Expr) → TypedGlobal
typed_global size k init = record {
  kind = k;
  length = length_in size (count_of size init);
  row = row_in size;
  init = init_words size k init;
}

-- the file scope after a global
abbrev pub with_global : ArraySize → Kind → List ℕ → List (List Expr) → FileScope → FileScope
with_global size k w init U =
    record U {
      names = global_names size k w U;
      globals = U.globals ++ typed_global size k init ∷ [];
      bytes = count_of size init * bytes k + U.bytes;
    }
