-- What the rules give a global has no fault, and is what the definitions compute.
use Rattle.std.proofs.Common.{◌≡◌, ℕ, ◌-◌, ◌*◌, ◌≤◌, true, List, ◌∷◌, ◌++◌}
use Rattle.std.proofs.Common.{map, length, Option, Some, None, refl, sym, ap, ◌∙◌, subst}
use Rattle.std.specs.Prelude.{◌&&◌, replicate}
use Rattle.c_tree.specs.declared.token.Kind.{Kind}
use Rattle.c_tree.specs.declared.tree.ArraySize.{ArraySize}
use Rattle.c_tree.specs.declared.tree.ArraySize.TheVariants as size
use Rattle.c_tree.specs.declared.tree.Expr.{Expr}
use Rattle.c_constant.specs.Kinds.{converted}
use Rattle.c_constant.specs.Need.{need_fits}
use Rattle.c_type_expr.specs.Scope.{Scope}
use Rattle.c_type_expr.specs.declared.fault.TypeFault.TheVariants.{Mismatch}
use Rattle.c_type_expr.specs.declared.fault.TypeFault.TheVariants.{Need}
use Rattle.c_type_expr.specs.Constants.{value_fault, constant_at}
use Rattle.c_constant.specs.Constant.{word_in, length_of}
use Rattle.c_type.specs.States.{row_in}
use Rattle.c_type.specs.Units.{count_of, rows_words, rows_fit, init_fits, init_words}
use Rattle.c_type.specs.inside.Units.{count_fault, values_fault}
use Rattle.c_type.specs.FileScopes.{all_values}
use Rattle.c_type_rules.specs.Units.{RowValues, Init, no_row, one_row, rows_counted, rows_sized}
use Rattle.c_type_rules.specs.Units.{in_list, in_rows}
use Rattle.c_type_rules.specs.Units.{Values, Count}
use Rattle.c_type_rules.specs.Units.{no_value, one_value}
use Rattle.c_type_rules.specs.Units.{single, counted, sized}
use Rattle.c_type_rules.proofs.Constants.{constant_fine}
use Rattle.c_type_rules.proofs.SoundParts.{both, fine, size_fine, less, at_most, one_row_of}
use Rattle.c_type.proofs.Rows.{values_append}
use Rattle.c_type_rules.proofs.Lengths.{no_less}

-- the values of a global have no fault, and their words
pub values_fine : (G : Scope) (k : Kind) (es : List Expr) (ns : List ℕ) → Values G k es ns
    → (values_fault es G ≡ None) × (ns ≡ map (constant_at k) es)
values_fine G k _ _ no_value = (refl, refl)
values_fine G k _ _ (one_value {e = e} {n = n} {es = es} {ns = ns} f v n' d) =
    let s = values_fine G k es ns d in (
      both _ _ (both _ _ (constant_fine G e f) (both _ _ (ap (λ o. value_fault o e.offset) v)
          (fine (need_fits e) (Need e.offset) n'))) s.0,
      ap (λ o. converted k (word_in o) ∷ ns) (sym v) ∙ ap (λ ns. constant_at k e ∷ ns) s.1,
    )

-- the values of rows have no fault, they fit, and their words
rows_fine : (G : Scope) (k : Kind) (n : ℕ) (ess : List (List Expr)) (ns : List ℕ) → RowValues G k n ess ns
    → (values_fault (all_values ess) G ≡ None) × (rows_fit n ess ≡ true) × (ns ≡ rows_words k n ess)
rows_fine G k n _ _ no_row = (refl, refl, refl)
rows_fine G k n _ _ (one_row {es = es} {ess = ess} {ws = ws} {ns = ns} d h r) =
    let p = values_fine G k es ws d in
    let q = rows_fine G k n ess ns r in (
      values_append es (all_values ess) G ∙ both _ _ p.0 q.0,
      ap (λ b. b && rows_fit n ess) (at_most _ _ h) ∙ q.1,
      ap (λ ws. (ws ++ replicate (n - length es) 0) ++ ns) p.1
          ∙ ap (λ ns. (map (constant_at k) es ++ replicate (n - length es) 0) ++ ns) q.2,
    )

-- what a global holds has no fault, and its count
pub count_fine : (G : Scope) (init : List (List Expr)) (s : ArraySize) (n : ℕ) (l : ℕ) → Count G init s n
    → (count_fault s init l G ≡ None) × (n ≡ count_of s init)
count_fine G init _ _ l single = (refl, refl)
count_fine G init _ _ l (counted h) = (fine _ (Mismatch l) (less _ _ h), sym (one_row_of (length (all_values init))))
count_fine G init _ _ l (sized {e = e} {n = n} s) =
    (size_fine G e n s, sym (one_row_of n) ∙ ap (λ o. 1 * word_in o) (sym s.1))
count_fine G init _ _ l (rows_counted {e = e} {n = n} s h) =
    (both _ _ (size_fine G e n s) (fine _ (Mismatch l) (less _ _ h)), ap (λ o. length init * word_in o) (sym s.1))
count_fine G init _ _ l (rows_sized {r = r} {e = e} {m = m} {n = n} s s') = (
  both _ _ (size_fine G r m s) (size_fine G e n s'),
  ap (λ o. word_in o * n) (sym s.1) ∙ ap (λ o. word_in (length_of r) * word_in o) (sym s'.1),
)

abbrev InitFine : Scope → Kind → ArraySize → List (List Expr) → List ℕ → Type 0
InitFine G k s init ns =
    (values_fault (all_values init) G ≡ None) × (init_fits s init ≡ true) × (ns ≡ init_words s k init)

-- values in one list
list_fine : (G : Scope) (k : Kind) (s : ArraySize) (init : List (List Expr)) (ns : List ℕ) → row_in s ≡ None
    → Values G k (all_values init) ns → length (all_values init) ≤ count_of s init → InitFine G k s init ns
list_fine G k size.Scalar init ns e d h =
    let p = values_fine G k (all_values init) ns d in (p.0, at_most _ _ h, p.1)
list_fine G k size.Open init ns e d h =
    let p = values_fine G k (all_values init) ns d in (p.0, at_most _ _ h, p.1)
list_fine G k (size.Sized x) init ns e d h =
    let p = values_fine G k (all_values init) ns d in (p.0, at_most _ _ h, p.1)
list_fine G k (size.Rows o x) init ns e d h = absurd (cc)

-- no more rows than there are
fit_rows : (o : Option Expr) (e : Expr) (n : ℕ) (init : List (List Expr)) → length_of e ≡ Some n
    → rows_fit n init ≡ true → length init * n ≤ count_of (size.Rows o e) init
    → init_fits (size.Rows o e) init ≡ true
fit_rows None e n init s f h = ap (λ x. rows_fit (word_in x) init) s ∙ f
fit_rows (Some r) e n init s f h =
    let m = word_in (length_of r) in
    ap (λ b. b && rows_fit (word_in (length_of e)) init)
    (at_most _ _ (no_less e n (length init) m s (subst (λ x. length init * n ≤ m * word_in x) s h)))
    ∙ ap (λ x. rows_fit (word_in x) init) s ∙ f

-- what a global begins with has no fault, is not too much, and its words
pub init_fine : (G : Scope) (k : Kind) (n : ℕ) (s : ArraySize) (init : List (List Expr)) (ns : List ℕ)
    → n ≡ count_of s init → Init G k n s init ns → InitFine G k s init ns
init_fine G k n _ _ _ e (in_list {s = s} {init = init} {ns = ns} h d f) =
    list_fine G k s init ns h d (subst (λ n. length (all_values init) ≤ n) e f)
init_fine G k n _ _ _ e (in_rows {o = o} {e = x} {n = m} {init = init} {ns = ns} s d f) =
    let p = rows_fine G k m init ns d in (
      p.0,
      fit_rows o x m init s p.1 (subst (λ n. length init * m ≤ n) e f),
      p.2 ∙ ap (λ y. rows_words k (word_in y) init) (sym s),
    )
