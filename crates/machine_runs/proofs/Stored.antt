-- Data memory tells the bytes that it begins with, up to the last one that is not 0.
use Rattle.std.proofs.Common.{◌≡◌, ℕ, zero, suc, ◌-◌, List, [], ◌∷◌, ◌++◌, length, replicate, refl, sym, ap, ap₂, ◌∙◌}
use Rattle.std.proofs.Common.{arith}
use Rattle.trips_isa.specs.Images.{last_byte}
use Rattle.trips_isa.specs.Stores.{data_size}
use Rattle.trips_isa.specs.Machine.{memory_of}

-- the first byte, and those behind it
abbrev first_byte : List ℕ → ℕ
first_byte [] = 0
first_byte (x ∷ xs) = x

abbrev others : List ℕ → List ℕ
others [] = []
others (x ∷ xs) = xs

-- what stands in zeros ends with one
last_of_zeros : (m x : ℕ) (xs rest : List ℕ) → replicate m 0 ≡ (x ∷ xs) ++ rest → last_byte (x ∷ xs) ≡ 0
last_of_zeros zero x xs rest e = absurd (let none : 0 ≡ suc (length (xs ++ rest)) = ap
    (λ (l : List ℕ). length l) e in omega (arith, none))
last_of_zeros (suc m) x [] rest e = sym (ap (λ (l : List ℕ). first_byte l) e)
last_of_zeros (suc m) x (y ∷ ys) rest e = last_of_zeros m y ys rest (ap (λ (l : List ℕ). others l) e)

same_front : (a b : List ℕ) (m n : ℕ) → (last_byte a ≡ 0 → ⊥) → (last_byte b ≡ 0 → ⊥)
    → a ++ replicate m 0 ≡ b ++ replicate n 0 → a ≡ b
same_front [] [] m n p q e = refl
same_front [] (y ∷ ys) m n p q e = absurd (q (last_of_zeros m y ys (replicate n 0) e))
same_front (x ∷ xs) [] m n p q e = absurd (p (last_of_zeros n x xs (replicate m 0) (sym e)))
same_front (x ∷ xs) (y ∷ ys) m n p q e = ap₂ (λ (h : ℕ) (t : List ℕ). h ∷ t) (ap (λ (l : List ℕ). first_byte l) e)
    (same_front xs ys m n (tail_last x xs p) (tail_last y ys q) (ap (λ (l : List ℕ). others l) e))
  where
    -- what is left ends as the whole did
    tail_last : (x : ℕ) (xs : List ℕ) → (last_byte (x ∷ xs) ≡ 0 → ⊥) → last_byte xs ≡ 0 → ⊥
    tail_last x [] h = λ e. omega (arith, e)
    tail_last x (z ∷ zs) h = h

pub stored_is : (a b : List ℕ) → (last_byte a ≡ 0 → ⊥) → (last_byte b ≡ 0 → ⊥) → memory_of a ≡ memory_of b → a ≡ b
unfolding memory_of
stored_is a b p q e = same_front a b (data_size - length a) (data_size - length b) p q e
