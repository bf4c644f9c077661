-- A word is written in decimal digits as the number that it stands for.
use Rattle.std.proofs.Common.{◌≡◌, ℕ, suc, ◌-◌, ◌<◌, ◌≤◌, ◌^◌, Bool, true, false, nat_lt, ℤ, negsuc, refl, sym, ap, ◌∙◌}
use Rattle.std.proofs.Common.{List, ◌++◌, ◌∷◌, ◌==◌, codes, arith}
use Rattle.std.specs.Prelude.{cond}
use Rattle.std.proofs.Math.Facts.{to_z-neg}
use Rattle.std.proofs.lemmas.Bool.Decides.{nat_tests}
use Rattle.std.proofs.lemmas.Int.{to_z_pos}
use Rattle.std.specs.Int.{w64, cast_signed, cast_unsigned}
use Rattle.std.specs.Fmt.{decimal, signed_decimal}
use Rattle.std.proofs.lemmas.Int.{of_z-to_z}
use Rattle.trips_requests.specs.declared.status.Status.TheVariants as status
use Rattle.trips_requests.specs.Results.{aborted_word, end_line, end_status}
use Rattle.trips_report.specs.Runs.{signed}

is_low : (w : ℕ) → nat_lt w (2 ^ 63) ≡ true → w < 2 ^ 63
is_low w e = grind (arith, nat_tests)

is_high : (w : ℕ) → nat_lt w (2 ^ 63) ≡ false → 2 ^ 63 ≤ w
is_high w e = grind (arith, nat_tests)

-- a word of the upper half stands for a negative number
negative : (w : ℕ) → w < 2 ^ 64 → 2 ^ 63 ≤ w → cast_signed w64 w ≡ negsuc (2 ^ 64 - suc w)
negative w below high =
    let is : w ≡ 2 ^ 64 - suc (2 ^ 64 - suc w) = omega (arith, below) in
    ap (cast_signed w64) is ∙ to_z-neg w64 (2 ^ 64 - suc w) (omega (arith, high))

-- a word is written as the signed number that it stands for
pub signed_number : (w : ℕ) → w < 2 ^ 64 → signed w ≡ signed_decimal (cast_signed w64 w)
signed_number w below = go (nat_lt w (2 ^ 63)) refl
  where
    told : (v : Bool) → nat_lt w (2 ^ 63) ≡ v → signed w ≡ cond v (decimal w) (45 ∷ decimal (2 ^ 64 - w))
    told v e = ap (λ (b : Bool). cond b (decimal w) (45 ∷ decimal (2 ^ 64 - w))) e

    go : (v : Bool) → nat_lt w (2 ^ 63) ≡ v → signed w ≡ signed_decimal (cast_signed w64 w)
    go true e = told true e ∙ sym (ap signed_decimal (to_z_pos w64 w (is_low w e)))
    go false e =
        let size : 2 ^ 64 - w ≡ suc (2 ^ 64 - suc w) = omega (arith, below) in
        told false e ∙ ap (λ (k : ℕ). 45 ∷ decimal k) size
        ∙ sym (ap signed_decimal (negative w below (is_high w e)))

-- a word is that of the signed number that it stands for
pub number_word : (w : ℕ) (value : ℤ) → w < 2 ^ 64 → cast_signed w64 w ≡ value → w ≡ cast_unsigned w64 value
number_word w value below is = sym (of_z-to_z w64 w below) ∙ ap (cast_unsigned w64) is

-- an end with a result has the line of a result
pub result_said : (w : ℕ) (digits : List ℕ) → end_status w ≡ status.Ended
    → end_line w digits ≡ codes "result " ++ digits
result_said w digits = go (w == aborted_word)
  where
    go : (b : Bool) → cond b status.Aborted status.Ended ≡ status.Ended
        → cond b (codes "aborted") (codes "result " ++ digits) ≡ codes "result " ++ digits
    go true e = absurd (cc)
    go false e = refl
