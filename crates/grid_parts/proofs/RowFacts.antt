-- Rows of numbers and flags as functions: what a change of one place is.
use Rattle.std.proofs.Common.{◌≡◌, ◌≢◌, ℕ, ◌<◌, Bool, true, false, cond, ◌==◌, ◌||◌, ◌⊎◌, inl, inr, List, length}
use Rattle.std.proofs.Common.{slice_index_or, slice_set, refl, sym, ap, ◌∙◌, arith, get_or-set_other, length-set}
use Rattle.std.proofs.Math.Path.{fun_ext}
use Rattle.std.proofs.lemmas.Bool.{cases_eq, eq-eqb, ne_eqb}
use Rattle.std.proofs.lemmas.Grind.{get_or-set_at}
use Rattle.std.proofs.lemmas.List.{length-replicate}
use Rattle.grid_parts.specs.inside.Fetches.{AreHistories}
use Rattle.grid_parts.proofs.FlagFacts.{zeros, zero_at}

-- one place of a row
pub set_row : {B : Type 0} (xs : List B) (n : ℕ) (v d : B) → n < length xs
    → ◌≡◌ {A = ℕ → B} (λ m. slice_index_or (slice_set xs n v) m d) (λ m. cond (m == n) v (slice_index_or xs m d))
set_row xs n v d inside = fun_ext (λ m. go m (cases_eq m n))
  where
    go : (m : ℕ) → (m ≡ n) ⊎ (m ≢ n)
        → slice_index_or (slice_set xs n v) m d ≡ cond (m == n) v (slice_index_or xs m d)
    go m (inl e) = get_or-set_at xs n m v d e inside
        ∙ ap (λ b. cond b v (slice_index_or xs m d)) (sym (eq-eqb m n e))
    go m (inr ne) = get_or-set_other xs n m v d ne
        ∙ ap (λ b. cond b v (slice_index_or xs m d)) (sym (ne_eqb m n ne))

cond_or : (a b : Bool) → cond a true b ≡ (a || b)
cond_or true true = refl
cond_or true false = refl
cond_or false true = refl
cond_or false false = refl

-- one flag more
pub flag_more : (xs : List Bool) (n : ℕ) → n < length xs
    → ◌≡◌ {A = ℕ → Bool} (λ m. slice_index_or (slice_set xs n true) m false)
    (λ m. (m == n) || slice_index_or xs m false)
flag_more xs n inside = set_row xs n true false inside
    ∙ fun_ext (λ m. cond_or (m == n) (slice_index_or xs m false))

-- histories stay below 1,024
pub set_history : (ws : List ℕ) (n h : ℕ) → n < 8 → h < 1024 → AreHistories ws → AreHistories (slice_set ws n h)
set_history ws n h inside below are = record {
  size = length-set ws n h ∙ are.size;
  below = λ f. go f (cases_eq f n);
}
  where
    go : (f : ℕ) → (f ≡ n) ⊎ (f ≢ n) → slice_index_or (slice_set ws n h) f 0 < 1024
    go f (inl e) =
        let l : n < length ws = let size = are.size in omega (arith, size) in
        let v = get_or-set_at ws n f h 0 e l in omega (arith, v)
    go f (inr ne) = let v = get_or-set_other ws n f h 0 ne in let b = are.below f in omega (arith, v, b)

-- eight zeros are histories
pub no_histories : AreHistories (zeros 8)
no_histories = record {
  size = let z : ℕ = 0 in length-replicate 8 z;
  below = λ f. let v = zero_at 8 f in omega (arith, v);
}
