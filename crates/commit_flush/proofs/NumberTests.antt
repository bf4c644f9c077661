-- Tests of numbers.
use Rattle.std.proofs.Common.{◌≡◌, ◌≢◌, ℕ, suc, ◌<◌, ◌≤◌, Bool, true, false, ◌==◌, ◌||◌, nat_lt, sym}
use Rattle.std.proofs.Common.{◌∙◌, ap, refl, arith}
use Rattle.std.proofs.Common.{true≢false}
use Rattle.std.proofs.lemmas.Bool.Decides.{nat_tests}

-- the test of equal numbers tells that they are equal
pub equal_is : (a b : ℕ) → (a == b) ≡ true → a ≡ b
equal_is a b e = grind (arith, nat_tests)

-- equal numbers pass the test
pub is_equal : (a b : ℕ) → a ≡ b → (a == b) ≡ true
is_equal a b e = grind (arith, nat_tests)

-- different numbers fail the test
pub apart : (a b : ℕ) → a ≢ b → (a == b) ≡ false
apart a b ne = go (a == b) refl
  where
    go : (v : Bool) → (a == b) ≡ v → (a == b) ≡ false
    go true e = absurd (ne (equal_is a b e))
    go false e = e

-- numbers that test as not equal differ
pub are_apart : (a b : ℕ) → (a == b) ≡ false → a ≢ b
are_apart a b e same = true≢false (sym (is_equal a b same) ∙ e)

-- the test of equal numbers fails both ways
pub flipped : (a b : ℕ) → (a == b) ≡ false → (b == a) ≡ false
flipped a b e = apart b a (λ z. are_apart a b e (sym z))

-- two numbers are equal where those one higher are
pub same_suc : (a b : ℕ) → (suc a == suc b) ≡ (a == b)
same_suc a b = go (a == b) refl
  where
    go : (v : Bool) → (a == b) ≡ v → (suc a == suc b) ≡ v
    go true e = is_equal (suc a) (suc b) (ap suc (equal_is a b e))
    go false e = apart (suc a) (suc b) (λ z. let same : a ≡ b = omega arith in are_apart a b e same)

-- of a lesser number the test of less is true
pub below : (a b : ℕ) → a < b → nat_lt a b ≡ true
below a b l = grind (arith, nat_tests)

-- of a number that is not less the test of less is false
pub not_below : (a b : ℕ) → b ≤ a → nat_lt a b ≡ false
not_below a b l = go (nat_lt a b) refl
  where
    go : (v : Bool) → nat_lt a b ≡ v → nat_lt a b ≡ false
    go true e = let bad : a < b = grind (arith, nat_tests) in absurd (omega arith)
    go false e = e

-- where the test of less is true, the one number is less than the other
pub below_is : (a b : ℕ) → nat_lt a b ≡ true → a < b
below_is a b e = grind (arith, nat_tests)

-- what is not below a number is at least that number
pub not_below_is : (a b : ℕ) → nat_lt a b ≡ false → b ≤ a
not_below_is a b e = grind (arith, nat_tests)

-- both parts of what does not hold do not hold
pub neither : (a b : Bool) → (a || b) ≡ false → (a ≡ false) × (b ≡ false)
neither true b e = absurd (cc)
neither false b e = (refl, e)
