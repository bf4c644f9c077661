-- Numerals stand for their numbers.
use Rattle.std.proofs.Common.{◌≡◌, ℕ, ◌+◌, ◌/◌, ◌%◌, ◌<◌, List, [], ◌∷◌, ◌++◌, sym, ap, ◌∙◌, arith}
use Rattle.std.proofs.lemmas.Fmt.{decimal_by_steps}
use Rattle.std.proofs.lemmas.Int.Digits.{all_below_base_digits_of, number_digits_of, first_digits_of}
use Rattle.library_laws.specs.Numerals.{numeral, NumeralsAreDigits, DecimalsAreNumerals}
use Rattle.library_laws.proofs.NumeralFacts.{digit_small, numeral_step}

pub numerals_are_digits : NumeralsAreDigits
numerals_are_digits base n low = record {
  below = all_below_base_digits_of base n low;
  value = number_digits_of base n low;
  first = λ some. first_digits_of base n low some;
}

-- the last digit of a number, in front of which stands this
last_digit : (letters n : ℕ) (ds : List ℕ) → 0 < n → ds ≡ numeral 10 letters (n / 10)
    → ds ++ (48 + n % 10) ∷ [] ≡ numeral 10 letters n
last_digit letters n ds some e =
    ap (λ (front : List ℕ). front ++ (48 + n % 10) ∷ []) e
    ∙ ap (λ (b : ℕ). numeral 10 letters (n / 10) ++ b ∷ []) (sym (digit_small letters (n % 10) (omega arith)))
    ∙ sym (numeral_step 10 letters n (omega arith) some)

-- a number of one digit
one_digit : (letters n : ℕ) → n < 10 → 0 < n → (48 + n) ∷ [] ≡ numeral 10 letters n
one_digit letters n small some =
    let front : 0 ≡ n / 10 = omega arith in
    let last : n ≡ n % 10 = omega arith in
    ap (λ (d : ℕ). (48 + d) ∷ []) last
    ∙ last_digit letters n [] some (ap (λ (m : ℕ). numeral 10 letters m) front)

pub decimals_are_numerals : DecimalsAreNumerals
decimals_are_numerals letters n some word =
    decimal_by_steps (λ n ds. 0 < n → ds ≡ numeral 10 letters n) (λ n h some. one_digit letters n h some)
    (λ n ds h e some. last_digit letters n ds some (e (omega arith))) n word some
