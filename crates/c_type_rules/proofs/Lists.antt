-- Lists one element longer, sizes of arrays, and the labels of a switch.
use Rattle.std.proofs.Common.{◌≡◌, ℕ, ◌*◌, ◌≤◌, Bool, true, false, cond, ℤ, pos, negsuc, List, [], ◌∷◌, ◌++◌}
use Rattle.std.proofs.Common.{map, length, Option, Some, None, refl, sym, ap, ◌∙◌, subst, arith}
use Rattle.std.specs.Prelude.{nat_lt, not, slice_get}
use Rattle.std.proofs.Math.Nat.{le_trans, le-mul_of_pos_right}
use Rattle.std.proofs.lemmas.Bool.{false≢true, ltb-true}
use Rattle.c_tree.specs.declared.token.Kind.{Kind}
use Rattle.c_tree.specs.declared.tree.ArraySize.{ArraySize}
use Rattle.c_tree.specs.declared.tree.ArraySize.TheVariants as size
use Rattle.c_tree.specs.declared.tree.Expr.{Expr}
use Rattle.c_tree.specs.declared.tree.Label.{Label}
use Rattle.c_tree.specs.declared.typed.TypedArray.{TypedArray}
use Rattle.c_type_expr.specs.declared.meaning.Binding.{Binding}
use Rattle.c_type_expr.specs.Scope.{Scope, Frame, declared_in}
use Rattle.c_constant.specs.Constant.{constant, ends, length_of, length_in, length_from, word_in}
use Rattle.c_constant.specs.Kinds.{number}
use Rattle.c_type_expr.specs.declared.fault.TypeFault.{TypeFault}
use Rattle.c_type_expr.specs.Blames.{unless}
use Rattle.c_type_expr.specs.Constants.{size_fault, value_fault}
use Rattle.c_type.specs.Declarations.{sizes_fault, extent}
use Rattle.c_type.specs.States.{row_in}
use Rattle.c_type.specs.Statements.{word_if, label_word, labels_fault}
use Rattle.c_type_rules.specs.inside.KeptStatements.{IsLabel, Labels}
use Rattle.c_type_rules.specs.inside.KeptStatements as rule
use Rattle.c_type_rules.specs.inside.WellFormed.{Each, IsRows}
use Rattle.c_type_rules.proofs.Moves.{split, held}
use Rattle.c_constant.proofs.Conversions.{converted_word}

-- LISTS

-- an element stands behind those before it
pub at_end : {A : Type 0} (xs : List A) (x : A) (ys : List A) → slice_get ((xs ++ x ∷ []) ++ ys) (length xs) ≡ Some x
at_end [] x ys = refl
at_end (z ∷ xs) x ys = at_end xs x ys

-- what holds of a list and one element more
pub each_last : {A : Type 0} (Q : A → Type 0) (xs : List A) (x : A) → Each Q xs → Q x → Each Q (xs ++ x ∷ [])
each_last Q [] x a b = (b, tt)
each_last Q (y ∷ xs) x a b = (a.0, each_last Q xs x a.1 b)

-- what holds of two lists holds of both in one
pub each_both : {A : Type 0} (Q : A → Type 0) (xs ys : List A) → Each Q xs → Each Q ys → Each Q (xs ++ ys)
each_both Q [] ys a b = b
each_both Q (x ∷ xs) ys a b = (a.0, each_both Q xs ys a.1 b)

-- SIZES

-- a length that a number gives is at least 1
from_some : (z : ℤ) (l : ℕ) → value_fault (length_from z) l ≡ None → 1 ≤ word_in (length_from z)
from_some (pos n) l e = by (nat_lt 0 n) refl
  where
    by : (b : Bool) → nat_lt 0 n ≡ b → 1 ≤ word_in (length_from (pos n))
    by true h = subst (λ b. 1 ≤ word_in (cond b (Some n) None)) (sym h) (ltb-true 0 n h)
    by false h = absurd (false≢true (held _ _ (sym (ap (λ b. value_fault (cond b (Some n) None) l) h) ∙ e)))
from_some (negsuc n) l e = absurd (false≢true (held _ _ e))

-- the same of the value of a constant
in_some : (k : Kind) (v : Option ℕ) (l : ℕ) → value_fault (length_in k v) l ≡ None → 1 ≤ word_in (length_in k v)
in_some k None l e = absurd (false≢true (held _ _ e))
in_some k (Some w) l e = from_some (number k w) l e

-- a size without a fault is at least 1
pub size_some : (e : Expr) (G : Scope) → size_fault e G ≡ None → 1 ≤ word_in (length_of e)
size_some e G h = in_some (constant ends e).kind (constant ends e).value e.offset (split _ _ h).1

-- a product of two that are at least 1
pub product_some : (m n : ℕ) → 1 ≤ m → 1 ≤ n → 1 ≤ m * n
product_some m n h g = le_trans h (le-mul_of_pos_right m g)

-- the sizes of a local array without a fault give at least one element, and whole rows
pub extent_some : (s : ArraySize) (l : ℕ) (G : Scope) → sizes_fault s l G ≡ None
    → (1 ≤ extent s) × IsRows (row_in s) (extent s)
extent_some size.Scalar l G h = absurd (cc)
extent_some size.Open l G h = absurd (cc)
extent_some (size.Sized e) l G h = (product_some 1 (word_in (length_of e)) (omega arith) (size_some e G h), tt)
extent_some (size.Rows None e) l G h = absurd (cc)
extent_some (size.Rows (Some r) e) l G h =
    let q = split _ _ h in
    let m = word_in (length_of r) in
    let n = word_in (length_of e) in
    (product_some m n (size_some r G q.0) (size_some e G q.1), (size_some e G q.1, (m, refl)))

-- LABELS

-- a test without a fault that is denied
not_held : (b : Bool) (t : TypeFault) → unless (not b) t ≡ None → b ≡ false
not_held false t e = refl
not_held true t e = absurd (cc)

-- the word of a label is one of the type
label_good : (k : Kind) (o : Option Expr) → IsLabel k (word_if k o)
label_good k None = tt
label_good k (Some e) = converted_word k _

-- labels without a fault
pub labels_good : (k : Kind) (seen : List (Option ℕ)) (ls : List Label) (G : Scope) → labels_fault k seen ls G ≡ None
    → Labels k seen (map (label_word k) ls)
labels_good k seen [] G h = rule.no_label
labels_good k seen (x ∷ xs) G h =
    let s = split _ _ h in
    rule.a_label (label_good k x.value) (not_held _ _ (split _ _ s.0).1)
    (labels_good k (seen ++ label_word k x ∷ []) xs G s.1)

-- an array of a function
abbrev pub an_array : Kind → Option ℕ → ℕ → TypedArray
an_array k q n = record { kind = k; length = n; row = q }

-- a declaration changes the innermost block alone
pub outer_in : (b : Binding) (N : Scope) (F F' : Frame) (G : Scope) → N ≡ F ∷ F' ∷ G → (new : Frame)
    × (declared_in b N ≡ new ∷ F' ∷ G)
outer_in b N F F' G e = (b ∷ F, ap (declared_in b) e)
