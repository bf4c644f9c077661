-- The numerals that the printing functions write: the digits of a number in a base, as bytes.
use Rattle.std.specs.Prelude.{◌≡◌, ℕ, ◌+◌, ◌^◌, ◌<◌, ◌≤◌, cond, nat_eq, nat_lt, List, [], ◌∷◌, map, decimal}
use Rattle.std.specs.Prelude.{slice_index}
use Rattle.std.specs.Int.Digits.{digits_of, number_from_digits, AllBelowBase}

-- the byte of a digit: 48 is `0`, and from 10 on it is a letter, where that of 10 is 10 more than `letters`
abbrev pub digit : ℕ → ℕ → ℕ
digit letters d = cond (nat_lt d 10) (48 + d) (letters + d)

-- `a` minus 10, and `A` minus 10
abbrev pub small_letters : ℕ
small_letters = 87

abbrev pub capital_letters : ℕ
capital_letters = 55

-- the digits of a number in a base, the highest first, with no `0` in front: none for 0
abbrev pub numeral : ℕ → ℕ → ℕ → List ℕ
numeral base letters n = map (digit letters) (digits_of base n)

-- the hexadecimal numeral of a number, which has a digit for 0
abbrev pub hexadecimal : ℕ → List ℕ
hexadecimal n = cond (nat_eq n 0) (48 ∷ []) (numeral 16 small_letters n)

-- WHAT MAKES THEM RIGHT

-- the digits of a number in a base: each is below the base, they stand for the number, and the first is not 0
pub record AreDigits (base n : ℕ) (ds : List ℕ) : Type 0 where
  pub below : AllBelowBase base ds
  pub value : number_from_digits base ds ≡ n
  pub first : 0 < n → 0 < slice_index ds 0

-- those of a numeral are so
abbrev pub NumeralsAreDigits : Type 0
NumeralsAreDigits = (base n : ℕ) → 2 ≤ base → AreDigits base n (digits_of base n)

-- the decimal numeral of an unsigned long that is not 0 is that in base 10
abbrev pub DecimalsAreNumerals : Type 0
DecimalsAreNumerals = (letters n : ℕ) → 0 < n → n < 2 ^ 64 → decimal n ≡ numeral 10 letters n
