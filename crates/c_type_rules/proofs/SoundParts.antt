-- Expressions, sizes and labels that have types by the rules have no fault.
use Rattle.std.proofs.Common.{◌≡◌, ℕ, ◌<◌, ◌≤◌, ◌*◌, Bool, true, false, not, List, [], ◌∷◌, ◌++◌, map}
use Rattle.std.proofs.Common.{Option, Some, None, refl, sym, ap, ◌∙◌, arith}
use Rattle.std.specs.Prelude.{nat_lt, nat_le}
use Rattle.c_tree.specs.declared.token.Kind.{Kind}
use Rattle.c_tree.specs.declared.tree.ArraySize.{ArraySize}
use Rattle.c_tree.specs.declared.tree.ArraySize.TheVariants as size
use Rattle.c_tree.specs.declared.tree.Expr.{Expr}
use Rattle.c_tree.specs.declared.tree.Label.{Label}
use Rattle.c_tree.specs.declared.typed.TypedExpr.{TypedExpr}
use Rattle.c_constant.specs.Need.{need_fits}
use Rattle.c_type_expr.specs.Scope.{Scope}
use Rattle.c_type_expr.specs.declared.fault.TypeFault.{TypeFault}
use Rattle.c_type_expr.specs.declared.fault.TypeFault.TheVariants.{Twice}
use Rattle.c_type_expr.specs.declared.fault.TypeFault.TheVariants.{TooLarge, Need}
use Rattle.c_type_expr.specs.declared.role.Role.{Role}
use Rattle.c_type_expr.specs.declared.role.Role.TheVariants.{Value}
use Rattle.c_type_expr.specs.Blames.{Blame, first, unless}
use Rattle.c_type_expr.specs.Trees.{tree}
use Rattle.c_type_expr.specs.Conversions.{with_convert}
use Rattle.c_type_expr.specs.Constants.{full, value_fault, size_fault, constant_at}
use Rattle.c_constant.specs.Constant.{word_in, length_of}
use Rattle.c_type_expr.proofs.Theorem.{sound}
use Rattle.c_type.specs.LeftOut.{full_if, tree_if, value_of}
use Rattle.c_constant.specs.Kinds.{bytes, converted}
use Rattle.c_type.specs.Declarations.{twice_fault, sizes_fault, array_fault, sized_fault, extent}
use Rattle.c_type.specs.States.{is_taken}
use Rattle.c_type.specs.Statements.{label_word, label_among, labels_fault}
use Rattle.c_type_rules.specs.Constants.{Size}
use Rattle.c_type_rules.specs.Statements.{Full, FullIf, Initialises, Labels}
use Rattle.c_type_rules.specs.Statements.{no_label, a_case, a_default}
use Rattle.c_type_rules.specs.Statements.{absent, present, without_value, with_value}
use Rattle.c_type_rules.proofs.Constants.{constant_fine}

-- two parts without a fault
pub both : (f g : Blame) → f ≡ None → g ≡ None → first f g ≡ None
both f g p q = ap (λ (f : Blame). first f g) p ∙ q

-- what is tested and holds
pub fine : (b : Bool) (f : TypeFault) → b ≡ true → unless b f ≡ None
fine b f e = ap (λ b. unless b f) e

-- a full expression has no fault, and its tree
pub full_fine : (G : Scope) (r : Role) (e : Expr) (t : TypedExpr) → Full G r e t → (full e r G ≡ None)
    × (t ≡ tree e G)
full_fine G r e t (d, n) =
    let s = sound G r e t d in (both _ _ s.0 (fine (need_fits e) (Need e.offset) n), s.1)

-- the same of one that may be left out
pub full_if_fine : (G : Scope) (r : Role) (e : Option Expr) (t : Option TypedExpr) → FullIf G r e t
    → (full_if e r G ≡ None) × (t ≡ tree_if e G)
full_if_fine G r _ _ absent = (refl, refl)
full_if_fine G r _ _ (present {e = e} {t = t} d) = let s = full_fine G r e t d in (s.0, ap Some s.1)

-- the same of an initialiser
pub initialises_fine : (G : Scope) (k : Kind) (e : Option Expr) (t : Option TypedExpr) → Initialises G k e t
    → (full_if e Value G ≡ None) × (t ≡ value_of e k G)
initialises_fine G k _ _ without_value = (refl, refl)
initialises_fine G k _ _ (with_value {e = e} {t = t} d) =
    let s = full_fine G Value e t d in (s.0, ap (λ (t : TypedExpr). Some (with_convert k t)) s.1)

-- a name that may be declared
pub free : (G : Scope) (w : List ℕ) (l : ℕ) → is_taken G w ≡ false → twice_fault G w l ≡ None
free G w l h = fine (not (is_taken G w)) (Twice l) (ap not h)

-- a size that is one
pub size_fine : (G : Scope) (e : Expr) (n : ℕ) → Size G e n → size_fault e G ≡ None
size_fine G e n s = both _ _ (constant_fine G e s.0) (ap (λ o. value_fault o e.offset) s.1)

-- A smaller number is found to be so.
pub less : (n m : ℕ) → n < m → nat_lt n m ≡ true
less n m h = grind arith

-- a number that is at most another is found so
pub at_most : (n m : ℕ) → n ≤ m → nat_le n m ≡ true
at_most n m h = grind arith

-- one row
pub one_row_of : (n : ℕ) → 1 * n ≡ n
one_row_of n = grind arith

-- an array that may be declared, of so many elements
pub sized_fine : (G : Scope) (s : ArraySize) (n : ℕ) (k : Kind) (w : List ℕ) (l : ℕ) → sizes_fault s l G ≡ None
    → n ≡ extent s → is_taken G w ≡ false → n * bytes k ≤ 1048576
    → sized_fault s k w None l G ≡ None
sized_fine G s n k w l f e h m =
    both _ _ (both _ _ f
    (ap (λ n. array_fault n k w l G) (sym e)
    ∙ both _ _ (free G w l h) (fine _ (TooLarge l) (at_most _ _ m)))) refl

-- the extent of one size, and of two
pub one_extent : (e : Expr) (n : ℕ) → length_of e ≡ Some n → n ≡ extent (size.Sized e)
one_extent e n s = sym (one_row_of n) ∙ ap (λ o. 1 * word_in o) (sym s)

-- the product of two constant sizes is the extent of the array of rows
pub two_extent : (r e : Expr) (m n : ℕ) → length_of r ≡ Some m → length_of e ≡ Some n
    → m * n ≡ extent (size.Rows (Some r) e)
two_extent r e m n s s' =
    ap (λ o. word_in o * n) (sym s) ∙ ap (λ o. word_in (length_of r) * word_in o) (sym s')

-- labels have no fault, and their words
pub labels_fine : (G : Scope) (k : Kind) (seen : List (Option ℕ)) (ls : List Label) (words : List (Option ℕ))
    → Labels G k seen ls words → (labels_fault k seen ls G ≡ None) × (words ≡ map (label_word k) ls)
labels_fine G k _ _ _ no_label = (refl, refl)
labels_fine G k _ _ _ (a_case {seen = seen} {words = words} {l = l} {n = n} {e = e} {xs = xs} f v n' h d) =
    let s = labels_fine G k (seen ++ Some (converted k n) ∷ []) xs words d in
    let c : Some (constant_at k e) ≡ Some (converted k n) = ap (λ o. Some (converted k (word_in o))) v in (
      both _ _
          (both _ _
          (both _ _ (constant_fine G e f)
          (both _ _ (ap (λ o. value_fault o e.offset) v) (fine (need_fits e) (Need e.offset) n')))
          (fine _ (Twice l) (ap (λ y. not (label_among y seen)) c ∙ ap not h)))
          (ap (λ y. labels_fault k (seen ++ y ∷ []) xs G) c ∙ s.0),
      ap (λ y. y ∷ words) (sym c) ∙ ap (λ ws. Some (constant_at k e) ∷ ws) s.1,
    )
labels_fine G k _ _ _ (a_default {seen = seen} {words = words} {l = l} {xs = xs} h d) =
    let s = labels_fine G k (seen ++ None ∷ []) xs words d in
    (both _ _ (fine _ (Twice l) (ap not h)) s.0, ap (λ ws. None ∷ ws) s.1)
