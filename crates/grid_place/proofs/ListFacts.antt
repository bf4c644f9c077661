-- Items of lists, and tests of all the bits of a list.
use Rattle.std.proofs.Common.{◌≡◌, ℕ, zero, suc, ◌<◌, ◌≤◌, Bool, true, false, ◌&&◌, List, []}
use Rattle.std.proofs.Common.{◌∷◌, length, get_or, Some, None, slice_get, refl, sym, ap, ap₂}
use Rattle.std.proofs.Common.{◌∙◌, arith}
use Rattle.std.proofs.lemmas.List.{length-map}
use Rattle.block_cases.specs.Cases.{bit, ones_pass}
use Rattle.grid_place.proofs.Totals.{indices}

-- an item that is there stands below the length
pub got_low : {A : Type 0} → (xs : List A) (k : ℕ) (v : A) → slice_get xs k ≡ Some v → k < length xs
got_low [] k v e = absurd (cc)
got_low (x ∷ xs) zero v e = omega arith
got_low (x ∷ xs) (suc k) v e = let h = got_low xs k v e in omega (arith, h)

-- where no item is there, the list is at its end
pub got_none : {A : Type 0} → (xs : List A) (k : ℕ) → slice_get xs k ≡ None → length xs ≤ k
got_none [] k e = omega arith
got_none (x ∷ xs) zero e = absurd (cc)
got_none (x ∷ xs) (suc k) e = let h = got_none xs k e in omega (arith, h)

-- an item that is there is the one that is read, whatever stands for none
pub got_or : {A : Type 0} → (xs : List A) (k : ℕ) (v d : A) → slice_get xs k ≡ Some v
    → get_or xs k d ≡ v
got_or [] k v d e = absurd (cc)
got_or (x ∷ xs) zero v d e = cc
got_or (x ∷ xs) (suc k) v d e = got_or xs k v d e

-- past its end a list reads as what stands for none
pub past : {A : Type 0} → (xs : List A) (k : ℕ) (d : A) → length xs ≤ k → get_or xs k d ≡ d
past [] k d l = refl
past (x ∷ xs) zero d l = absurd (omega arith)
past (x ∷ xs) (suc k) d l = past xs k d (omega arith)

-- there are n indices below n
pub index_count : (n : ℕ) → length (indices n) ≡ n
index_count zero = refl
index_count (suc n) = ap suc (length-map (indices n) suc ∙ index_count n)

-- lists of one length with the same bits are the same
pub same_bits : (c d : List Bool) → length c ≡ length d → ((y : ℕ) → bit c y ≡ bit d y) → c ≡ d
same_bits [] [] l h = refl
same_bits [] (v ∷ d) l h = absurd (omega (arith, l))
same_bits (u ∷ c) [] l h = absurd (omega (arith, l))
same_bits (u ∷ c) (v ∷ d) l h = ap₂ (λ a b. a ∷ b) (h 0)
    (same_bits c d (omega (arith, l)) (λ y. h (suc y)))

-- tests of which each follows from the other are the same
pub same_truth : (a b : Bool) → (a ≡ true → b ≡ true) → (b ≡ true → a ≡ true) → a ≡ b
same_truth true b f g = sym (f refl)
same_truth false true f g = g refl
same_truth false false f g = refl

both_true : (a b : Bool) → (a && b) ≡ true → (a ≡ true) × (b ≡ true)
both_true true b e = (refl, e)
both_true false b e = absurd (cc)

-- where all set bits pass a test, each does
pub ones_all : (c : List Bool) (f : ℕ → Bool) → ones_pass c f ≡ true → (x : ℕ) → bit c x ≡ true
    → f x ≡ true
ones_all [] f e x b = absurd (cc)
ones_all (true ∷ c) f e zero b = (both_true _ _ e).0
ones_all (true ∷ c) f e (suc x) b = ones_all c (λ y. f (suc y)) (both_true _ _ e).1 x b
ones_all (false ∷ c) f e zero b = absurd (cc)
ones_all (false ∷ c) f e (suc x) b = ones_all c (λ y. f (suc y)) e x b

-- where each set bit passes a test, all do
pub all_ones : (c : List Bool) (f : ℕ → Bool) → ((x : ℕ) → bit c x ≡ true → f x ≡ true)
    → ones_pass c f ≡ true
all_ones [] f h = refl
all_ones (true ∷ c) f h = ap₂ (λ a b. a && b) (h 0 refl)
    (all_ones c (λ y. f (suc y)) (λ x. h (suc x)))
all_ones (false ∷ c) f h = all_ones c (λ y. f (suc y)) (λ x. h (suc x))
