-- Digits as bytes, and numerals digit by digit.
use Rattle.std.proofs.Common.{◌≡◌, ℕ, suc, ◌+◌, ◌/◌, ◌%◌, ◌^◌, ◌<◌, ◌≤◌, ◌⊎◌, inl, inr, Bool, true, false, cond}
use Rattle.std.proofs.Common.{List, [], ◌∷◌, ◌++◌, map, ap, ◌∙◌, arith, length, length-append}
use Rattle.std.specs.Prelude.{nat_lt}
use Rattle.std.specs.Int.Digits.{digits_of}
use Rattle.std.proofs.lemmas.Bool.Decides.{nat_tests}
use Rattle.std.proofs.lemmas.Int.Digits.{digits_of_step}
use Rattle.std.proofs.Math.Nat.{pow-le-pow_left}
use Rattle.c_constant.proofs.Conversions.{order}
use Rattle.library_laws.specs.Numerals.{digit, numeral}

-- a digit below 10 is a cipher
pub digit_small : (letters d : ℕ) → d < 10 → digit letters d ≡ 48 + d
digit_small letters d h =
    let e : nat_lt d 10 ≡ true = grind (arith, nat_tests) in ap (λ (b : Bool). cond b (48 + d) (letters + d)) e

-- any other is a letter
pub digit_large : (letters d : ℕ) → 10 ≤ d → digit letters d ≡ letters + d
digit_large letters d h =
    let e : nat_lt d 10 ≡ false = grind (arith, nat_tests) in ap (λ (b : Bool). cond b (48 + d) (letters + d)) e

-- and is a byte
pub small_byte : (letters base d : ℕ) → d < base → base ≤ 36 → letters + base ≤ 256
    → digit letters d % 256 ≡ digit letters d
small_byte letters base d below high bytes = go (order d 10)
  where
    go : (d < 10) ⊎ (10 ≤ d) → digit letters d % 256 ≡ digit letters d
    go (inl small) = let e : digit letters d ≡ 48 + d = digit_small letters d small in omega arith
    go (inr large) = let e : digit letters d ≡ letters + d = digit_large letters d large in omega arith

map-snoc : (f : ℕ → ℕ) (xs : List ℕ) (y : ℕ) → map f (xs ++ y ∷ []) ≡ map f xs ++ f y ∷ []
map-snoc f [] y = λ i. f y ∷ []
map-snoc f (x ∷ xs) y = ap (λ (ys : List ℕ). f x ∷ ys) (map-snoc f xs y)

-- the numeral of a number that is not 0 is that of its quotient, and its last digit
pub numeral_step : (base letters n : ℕ) → 2 ≤ base → 0 < n
    → numeral base letters n ≡ numeral base letters (n / base) ++ digit letters (n % base) ∷ []
numeral_step base letters n low some =
    ap (λ (ds : List ℕ). map (digit letters) ds) (digits_of_step base n low some)
    ∙ map-snoc (digit letters) (digits_of base (n / base)) (n % base)

-- which is one digit longer
pub numeral_longer : (base letters n : ℕ) → 2 ≤ base → 0 < n
    → length (numeral base letters n) ≡ suc (length (numeral base letters (n / base)))
numeral_longer base letters n low some =
    ap (λ (ds : List ℕ). length ds) (numeral_step base letters n low some)
    ∙ length-append (numeral base letters (n / base)) (digit letters (n % base) ∷ []) ∙ omega arith

-- an unsigned long has at most 64 digits in each base from 2 on
pub below_power : (base n : ℕ) → 2 ≤ base → n < 2 ^ 64 → n < base ^ 64
below_power base n low word = omega (arith, word, pow-le-pow_left low 64)
