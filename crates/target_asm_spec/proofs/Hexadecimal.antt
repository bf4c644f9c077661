-- Hexadecimal numbers are read from their texts.
use Rattle.std.proofs.Common.{◌≡◌, ℕ, ◌+◌, ◌-◌, ◌*◌, ◌/◌, ◌%◌, ◌<◌, ◌≤◌, List, ◌++◌}
use Rattle.std.proofs.Common.{refl, ap, ◌∙◌, arith, Some, Bool, true, false, ◌⊎◌}
use Rattle.std.proofs.Common.{inl, inr}
use Rattle.std.specs.Prelude.{◌&&◌, nat_lt, nat_le}
use Rattle.std.proofs.lemmas.Bool.{cases_lt, lt-ltb, le-ltb, le-leb, lt-leb}
use Rattle.target_asm_spec.specs.Numbers.{hex_digit, hex_byte, hex_word}
use Rattle.target_asm_spec.specs.inside.Reading.{hex_value, byte_in, word_in}
use Rattle.target_asm_spec.proofs.Numbers.{and_both, and_none}

decimal_value : (b : ℕ) → 48 ≤ b → b ≤ 57 → hex_value b ≡ Some (b - 48)
unfolding hex_value
decimal_value b l h =
    let e : (nat_le 48 b && nat_le b 57)
    ≡ true = and_both (nat_le 48 b) (nat_le b 57) (le-leb 48 b l) (le-leb b 57 h) in
    rw e refl

letter_value : (b : ℕ) → 97 ≤ b → b ≤ 102 → hex_value b ≡ Some (b - 87)
unfolding hex_value
letter_value b l h =
    let no : nat_le b 57 ≡ false = lt-leb b 57 (omega (arith, l)) in
    let first : (nat_le 48 b && nat_le b 57) ≡ false =
    ap (λ (x : Bool). nat_le 48 b && x) no ∙ and_none (nat_le 48 b) in
    let e : (nat_le 97 b && nat_le b 102)
    ≡ true = and_both (nat_le 97 b) (nat_le b 102) (le-leb 97 b l) (le-leb b 102 h) in
    rw (first, e) refl

-- a digit is worth what it stands for
pub digit_again : (d : ℕ) → d < 16 → hex_value (hex_digit d) ≡ Some d
digit_again d h = by (cases_lt d 10)
  where
    by : (d < 10) ⊎ (10 ≤ d) → hex_value (hex_digit d) ≡ Some d
    by (inl l) =
        let e : nat_lt d 10 ≡ true = lt-ltb d 10 l in
        let n : 48 + d - 48 ≡ d = omega arith in
        rw e (decimal_value (48 + d) (omega arith) (omega (arith, l)) ∙ ap (λ (x : ℕ). Some x) n)
    by (inr l) =
        let e : nat_lt d 10 ≡ false = le-ltb d 10 l in
        let n : 87 + d - 87 ≡ d = omega arith in
        rw e (letter_value (87 + d) (omega (arith, l)) (omega (arith, h))
        ∙ ap (λ (x : ℕ). Some x) n)

-- a byte is read again from its two hexadecimal digits
pub byte_again : (b : ℕ) (rest : List ℕ) → b < 256 → byte_in (hex_byte b ++ rest) ≡ Some (b, rest)
unfolding byte_in
byte_again b rest l =
    let high : hex_value (hex_digit (b / 16)) ≡ Some (b / 16) = digit_again (b / 16) (omega (arith, l)) in
    let low : hex_value (hex_digit (b % 16)) ≡ Some (b % 16) = digit_again (b % 16) (omega arith) in
    let n : 16 * (b / 16) + b % 16 ≡ b = omega arith in
    rw (high, low) (ap (λ (x : ℕ). Some (x, rest)) n)

sum_of_bytes : (w : ℕ) → 16777216 * (w / 16777216) + 65536 * (w / 65536 % 256) + 256 *
    (w / 256 % 256) + w % 256 ≡ w
sum_of_bytes w = omega arith

-- a word that is written is read back
pub word_again : (w : ℕ) (rest : List ℕ) → w < 4294967296
    → word_in (hex_word w ++ rest) ≡ Some (w, rest)
unfolding word_in hex_word
word_again w rest l =
    let t3 : List ℕ = hex_byte (w % 256) ++ rest in
    let t2 : List ℕ = hex_byte (w / 256 % 256) ++ t3 in
    let t1 : List ℕ = hex_byte (w / 65536 % 256) ++ t2 in
    let a : byte_in (hex_byte (w / 16777216) ++ t1)
    ≡ Some (w / 16777216, t1) = byte_again (w / 16777216) t1 (omega (arith, l)) in
    let b : byte_in t1 ≡ Some (w / 65536 % 256, t2) = byte_again (w / 65536 % 256) t2 (omega arith) in
    let c : byte_in t2 ≡ Some (w / 256 % 256, t3) = byte_again (w / 256 % 256) t3 (omega arith) in
    let d : byte_in t3 ≡ Some (w % 256, rest) = byte_again (w % 256) rest (omega arith) in
    rw (a, b, c, d) (ap (λ (x : ℕ). Some (x, rest)) (sum_of_bytes w))
