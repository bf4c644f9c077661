-- Facts about lists that the evaluator's functions need.
use Rattle.std.proofs.Common.{◌≡◌, ℕ, zero, suc, ◌+◌, ◌<◌, ◌≤◌, List, [], ◌∷◌, ◌++◌, map, reverse}
use Rattle.std.proofs.Common.{length, drop, get_or, refl, arith}
use Rattle.std.proofs.lemmas.List.{map-append, reverse-append}
use Rattle.c_tree.specs.declared.TypedArray.{TypedArray}
use Rattle.c_meaning_spec.specs.Call.{array_bytes, all_bytes}
use Rattle.c_meaning.specs.inside.View.{waits}
use Rattle.c_meaning.specs.declared.frame.Waiting.{Waiting}

-- one put behind what waits is the first
pub stack_push : (xs : List Waiting) (x : Waiting)
    → reverse (map waits (xs ++ x ∷ [])) ≡ waits x ∷ reverse (map waits xs)
stack_push xs x = simp (map-append, reverse-append)

pub all_drop : (xs : List TypedArray) (i : ℕ) (d : TypedArray) → i < length xs
    → all_bytes (drop i xs) ≡ array_bytes (get_or xs i d) + all_bytes (drop (suc i) xs)
all_drop [] i d h = absurd (omega arith)
all_drop (x ∷ xs) zero d h = refl
all_drop (x ∷ xs) (suc i) d h = all_drop xs i d (omega arith)

pub all_over : (xs : List TypedArray) (i : ℕ) → length xs ≤ i → all_bytes (drop i xs) ≡ 0
all_over [] zero h = refl
all_over [] (suc i) h = refl
all_over (x ∷ xs) zero h = absurd (omega arith)
all_over (x ∷ xs) (suc i) h = all_over xs i (omega arith)
