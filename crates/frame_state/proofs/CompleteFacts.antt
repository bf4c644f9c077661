-- Outputs that have come, one after another.
use Rattle.std.proofs.Common.{◌≡◌, ℕ, zero, suc, ◌+◌, ◌<◌, Bool, true, false, ◌&&◌, refl, sym, ap, ap₂, ◌∙◌}
use Rattle.std.proofs.Common.{arith, inl, inr}
use Rattle.std.proofs.lemmas.Bool.{cases_lt}
use Rattle.commit_flush_spec.specs.Frames.{numbers}
use Rattle.commit_flush_spec.specs.Ends.{all_below}

-- what holds of all numbers below one, and of it, holds of all below the next
pub all_more : (p : ℕ → Bool) (n m : ℕ) → m ≡ n + 1 → p n ≡ true → all_below p n ≡ true → all_below p m ≡ true
all_more p n m e h k = let next : m ≡ suc n = omega (arith, e) in ap (all_below p) next ∙ ap₂ (λ a b. a && b) h k

and_false : (b : Bool) → (b && false) ≡ false
and_false true = refl
and_false false = refl

-- what fails of one number does not hold of all
pub not_all : (p : ℕ → Bool) (n w : ℕ) → w < n → p w ≡ false → all_below p n ≡ false
not_all p zero w l e = absurd (omega arith)
not_all p (suc n) w l e = elim (cases_lt w n) [
  | inl h ↦ ap (λ b. p n && b) (not_all p n w h e) ∙ and_false (p n)
  | inr h ↦ let same : n ≡ w = omega arith in ap (λ k. p k && all_below p n) same ∙ ap (λ b. b && all_below p n) e
]

-- a frame has 32 numbers
pub numbers_are : numbers ≡ 32
unfolding numbers
numbers_are = refl

-- all numbers are those below 32
pub all_numbers : (p : ℕ → Bool) (n : ℕ) → n ≡ 32 → all_below p n ≡ all_below p numbers
all_numbers p n e = ap (all_below p) (e ∙ sym numbers_are)

-- where one number has not come, not all have
pub not_all_numbers : (p : ℕ → Bool) (w : ℕ) → w < 32 → p w ≡ false → all_below p numbers ≡ false
not_all_numbers p w l e = let z = numbers_are in not_all p numbers w (omega (arith, z, l)) e
