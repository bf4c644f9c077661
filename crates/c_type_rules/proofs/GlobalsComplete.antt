-- A global without a fault has by the rules what the definitions compute.
use Rattle.std.proofs.Common.{◌≡◌, ℕ, true, List, [], ◌∷◌, map, length, Option, Some}
use Rattle.std.proofs.Common.{None, refl, sym, ◌∙◌, subst, arith}
use Rattle.std.specs.Prelude.{is_some, nat_le}
use Rattle.std.proofs.Math.Nat.{mul-le-mul_right}
use Rattle.std.proofs.lemmas.Bool.{false≢true}
use Rattle.c_tree.specs.declared.token.Kind.{Kind}
use Rattle.c_tree.specs.declared.tree.ArraySize.{ArraySize}
use Rattle.c_tree.specs.declared.tree.ArraySize.TheVariants as size
use Rattle.c_tree.specs.declared.tree.Expr.{Expr}
use Rattle.c_constant.specs.Kinds.{converted}
use Rattle.c_constant.specs.Constant.{constant, ends, length_of, word_in}
use Rattle.c_constant.specs.Need.{need_fits}
use Rattle.c_type_expr.specs.Scope.{Scope}
use Rattle.c_type_expr.specs.Constants.{not_fixed, constant_at}
use Rattle.c_type.specs.Units.{rows_words, rows_fit, init_fits, init_words, count_of}
use Rattle.c_type.specs.inside.Units.{count_fault, values_fault}
use Rattle.c_type.specs.FileScopes.{all_values}
use Rattle.c_type_rules.specs.Units.{RowValues, Init, no_row, one_row, rows_counted, rows_sized}
use Rattle.c_type_rules.specs.Units.{in_list, in_rows}
use Rattle.c_type_rules.specs.Units.{Values, Count}
use Rattle.c_type_rules.specs.Units.{no_value, one_value, single, counted}
use Rattle.c_type_rules.specs.Units.{sized}
use Rattle.c_type_rules.proofs.Constants.{constant_typed}
use Rattle.c_type_rules.proofs.SoundParts.{one_row_of}
use Rattle.c_type.proofs.Rows.{values_append}
use Rattle.c_type_rules.proofs.CompleteParts.{split, held, less, at_most, sized_typed}
use Rattle.c_type_rules.proofs.Tests.{both_hold}

-- a value without a fault has its word by the rules, before others
value_typed : (G : Scope) (k : Kind) (e : Expr) (es : List Expr) (o : Option ℕ) → (constant ends e).value ≡ o
    → not_fixed e G ≡ None → is_some o ≡ true → need_fits e ≡ true → Values G k es (map (constant_at k) es)
    → Values G k (e ∷ es) (map (constant_at k) (e ∷ es))
value_typed G k e es None v f h n d = absurd (false≢true h)
value_typed G k e es (Some w) v f h n d =
    subst (λ o. Values G k (e ∷ es) (converted k (word_in o) ∷ map (constant_at k) es)) (sym v)
    (one_value (constant_typed e G f) v n d)

-- values without a fault have their words by the rules
pub values_typed : (G : Scope) (k : Kind) (es : List Expr) → values_fault es G ≡ None
    → Values G k es (map (constant_at k) es)
values_typed G k [] h = no_value
values_typed G k (e ∷ es) h =
    let q = split _ _ h in
    let r = split _ _ q.0 in
    let u = split _ _ r.1 in
    value_typed G k e es (constant ends e).value refl r.0 (held _ _ u.0) (held _ _ u.1) (values_typed G k es q.1)

le_itself : (n : ℕ) → nat_le n n ≡ true
le_itself n = grind arith

-- what a global holds has its count by the rules
pub count_typed : (G : Scope) (init : List (List Expr)) (s : ArraySize) (l : ℕ) → count_fault s init l G ≡ None
    → Count G init s (count_of s init)
count_typed G init size.Scalar l h = single
count_typed G init size.Open l h =
    subst (Count G init size.Open) (sym (one_row_of (length (all_values init)))) (counted (less _ _ (held _ _ h)))
count_typed G init (size.Sized e) l h =
    subst (Count G init (size.Sized e)) (sym (one_row_of (word_in (length_of e))))
    (sized (sized_typed G e (length_of e) refl h))
count_typed G init (size.Rows None e) l h =
    let q = split _ _ h in rows_counted (sized_typed G e (length_of e) refl q.0) (less _ _ (held _ _ q.1))
count_typed G init (size.Rows (Some r) e) l h =
    let q = split _ _ h in
    rows_sized (sized_typed G r (length_of r) refl q.0) (sized_typed G e (length_of e) refl q.1)

-- rows without a fault that fit have their words by the rules
rows_typed : (G : Scope) (k : Kind) (n : ℕ) (ess : List (List Expr)) → values_fault (all_values ess) G ≡ None
    → rows_fit n ess ≡ true → RowValues G k n ess (rows_words k n ess)
rows_typed G k n [] h f = no_row
rows_typed G k n (es ∷ ess) h f =
    let q = split _ _ (sym (values_append es (all_values ess) G) ∙ h) in
    let r = both_hold (nat_le (length es) n) (rows_fit n ess) f in
    one_row (values_typed G k es q.0) (at_most _ _ r.0) (rows_typed G k n ess q.1 r.1)

-- what a global begins with has its words by the rules, where its size is none or has its length
pub init_typed : (G G' : Scope) (k : Kind) (s : ArraySize) (init : List (List Expr)) (l : ℕ)
    → count_fault s init l G' ≡ None → values_fault (all_values init) G ≡ None → init_fits s init ≡ true
    → Init G k (count_of s init) s init (init_words s k init)
init_typed G G' k size.Scalar init l h v f = in_list refl (values_typed G k (all_values init) v) (at_most _ _ f)
init_typed G G' k size.Open init l h v f = in_list refl (values_typed G k (all_values init) v) (at_most _ _ f)
init_typed G G' k (size.Sized e) init l h v f =
    in_list refl (values_typed G k (all_values init) v) (at_most _ _ f)
init_typed G G' k (size.Rows None e) init l h v f =
    let z = sized_typed G' e (length_of e) refl (split _ _ h).0 in
    in_rows z.1 (rows_typed G k (word_in (length_of e)) init v f) (at_most _ _ (le_itself (count_of (size.Rows None e)
    init)))
init_typed G G' k (size.Rows (Some r) e) init l h v f =
    let z = sized_typed G' e (length_of e) refl (split _ _ h).1 in
    let n = word_in (length_of e) in
    let q = both_hold (nat_le (length init) (word_in (length_of r))) (rows_fit n init) f in
    in_rows z.1 (rows_typed G k n init v q.1) (mul-le-mul_right n (at_most _ _ q.0))
