-- Facts on all rows of a table.
use Rattle.std.proofs.Common.{◌≡◌, Bool, true, false, ◌&&◌, cond, List, [], ◌∷◌, Some, refl, subst}
use Rattle.std.specs.Str.{bytes_eq}
use Rattle.std.proofs.lemmas.Slice.Eq.{bytes_eq-Decides}
use Rattle.c_lex.specs.Bytes.{Bytes}
use Rattle.c_lex.specs.Tables.{lookup}
use Rattle.c_lex.proofs.Basics.{and_left, and_right}

-- what holds of every row holds of the row that is found
abbrev pub all_rows : {A : Type 0} → (Bytes → Bool) → List (Bytes × A) → Bool
all_rows f [] = true
all_rows f (row ∷ rows) = f row.0 && all_rows f rows

-- What holds of all words of a table holds of one that is found there.
pub row_is : {A : Type 0} → (f : Bytes → Bool) (w : Bytes) (rows : List (Bytes × A)) (a : A)
    → all_rows f rows ≡ true → lookup w rows ≡ Some a → f w ≡ true
row_is f w [] a all e = absurd (cc)
row_is f w (row ∷ rows) a all e =
    let here : f row.0 ≡ true = and_left (f row.0) (all_rows f rows) all in
    let rest : all_rows f rows ≡ true = and_right (f row.0) (all_rows f rows) all in
    let P : Bool → Type 0 = λ v. bytes_eq row.0 w ≡ v → cond v (Some row.1) (lookup w rows) ≡ Some a
    → f w ≡ true in
    elim (bytes_eq row.0 w) as (λ v. P v) [
      | true ↦ (λ q _. subst (λ (x : Bytes). f x ≡ true) ((bytes_eq-Decides row.0 w).0 q) here)
      | false ↦ (λ q k. row_is f w rows a rest k)
    ] refl e
