-- A text that is read as hexadecimal digits is the text of their number.
use Rattle.std.proofs.Common.{◌≡◌, ℕ, ◌+◌, ◌-◌, ◌*◌, ◌/◌, ◌%◌, ◌<◌, ◌≤◌, List, [], ◌∷◌, ◌++◌}
use Rattle.std.proofs.Common.{refl, ap, ◌∙◌, arith, Some, None, Bool, true, false}
use Rattle.std.specs.Prelude.{◌&&◌, nat_lt, nat_le, if◌then◌else◌}
use Rattle.std.proofs.lemmas.Bool.{lt-ltb, le-ltb, leb-true}
use Rattle.target_asm_spec.specs.Numbers.{hex_digit, hex_byte, hex_word}
use Rattle.target_asm_spec.specs.inside.Reading.{hex_value, byte_in, word_in}
use Rattle.target_asm_spec.proofs.Numbers.{and_left, and_right}
use Rattle.target_asm_laws.proofs.Binds.{If, bind}

pub record IsHex (b d : ℕ) : Type 0 where
  pub below : d < 16
  pub is : b ≡ hex_digit d

low_digit : (b : ℕ) → 48 ≤ b → b ≤ 57 → IsHex b (b - 48)
low_digit b l h =
    let e : nat_lt (b - 48) 10 ≡ true = lt-ltb (b - 48) 10 (omega (arith, l, h)) in
    record { below = omega (arith, h); is = rw e (omega (arith, l)) }

high_digit : (b : ℕ) → 97 ≤ b → b ≤ 102 → IsHex b (b - 87)
high_digit b l h =
    let e : nat_lt (b - 87) 10 ≡ false = le-ltb (b - 87) 10 (omega (arith, l, h)) in
    record { below = omega (arith, h); is = rw e (omega (arith, l)) }

hex_by : (b : ℕ) (p q : Bool) → (nat_le 48 b && nat_le b 57) ≡ p
    → (nat_le 97 b && nat_le b 102) ≡ q
    → If (IsHex b) (if p then Some (b - 48) else (if q then Some (b - 87) else None))
hex_by b true q e f =
    low_digit b (leb-true 48 b (and_left (nat_le 48 b) (nat_le b 57) e))
    (leb-true b 57 (and_right (nat_le 48 b) (nat_le b 57) e))
hex_by b false true e f =
    high_digit b (leb-true 97 b (and_left (nat_le 97 b) (nat_le b 102) f))
    (leb-true b 102 (and_right (nat_le 97 b) (nat_le b 102) f))
hex_by b false false e f = tt

pub hex_is : (b : ℕ) → If (IsHex b) (hex_value b)
unfolding hex_value
hex_is b = hex_by b (nat_le 48 b && nat_le b 57) (nat_le 97 b && nat_le b 102) refl refl

-- a byte, whose two hexadecimal digits the text begins with
pub record IsByte (text : List ℕ) (r : ℕ × List ℕ) : Type 0 where
  pub below : r.0 < 256
  pub is : text ≡ hex_byte r.0 ++ r.1

two_digits : (h l x y : ℕ) (rest : List ℕ) → IsHex h x → IsHex l y
    → IsByte (h ∷ l ∷ rest) (16 * x + y, rest)
two_digits h l x y rest a b =
    let high : (16 * x + y) / 16 ≡ x = omega (arith, b.below) in
    let low : (16 * x + y) % 16 ≡ y = omega (arith, b.below) in
    record {
      below = omega (arith, a.below, b.below);
      is =
          rw (high, low) (ap (λ (z : ℕ). z ∷ l ∷ rest) a.is
          ∙ ap (λ (z : ℕ). hex_digit x ∷ z ∷ rest) b.is);
    }

-- what is read as a byte is the text of this byte
pub byte_is : (text : List ℕ) → If (IsByte text) (byte_in text)
unfolding byte_in
byte_is [] = tt
byte_is (h ∷ []) = tt
byte_is (h ∷ l ∷ rest) =
    bind (IsHex h) (IsByte (h ∷ l ∷ rest)) (hex_value h) _ (hex_is h) (λ x a.
    bind (IsHex l) (IsByte (h ∷ l ∷ rest)) (hex_value l) _ (hex_is l) (λ y b.
    two_digits h l x y rest a b))

-- a word of 32 bits, whose eight hexadecimal digits the text begins with
pub record IsWord (text : List ℕ) (r : ℕ × List ℕ) : Type 0 where
  pub below : r.0 < 4294967296
  pub is : text ≡ hex_word r.0 ++ r.1

four_bytes : (a b c d : ℕ) (text rest : List ℕ) → a < 256 → b < 256 → c < 256 → d < 256
    → text ≡ hex_byte a ++ (hex_byte b ++ (hex_byte c ++ (hex_byte d ++ rest)))
    → IsWord text (16777216 * a + 65536 * b + 256 * c + d, rest)
unfolding hex_word
four_bytes a b c d text rest i j k l e =
    let w : ℕ = 16777216 * a + 65536 * b + 256 * c + d in
    let first : w / 16777216 ≡ a = omega (arith, j, k, l) in
    let second : w / 65536 % 256 ≡ b = omega (arith, j, k, l) in
    let third : w / 256 % 256 ≡ c = omega (arith, k, l) in
    let fourth : w % 256 ≡ d = omega (arith, l) in
    record { below = omega (arith, i, j, k, l); is = rw (first, second, third, fourth) e }

-- what is read as a word is the text of this word
pub word_is : (text : List ℕ) → If (IsWord text) (word_in text)
unfolding word_in
word_is text =
    bind (IsByte text) (IsWord text) (byte_in text) _ (byte_is text) (λ a p.
    bind (IsByte a.1) (IsWord text) (byte_in a.1) _ (byte_is a.1) (λ b q.
    bind (IsByte b.1) (IsWord text) (byte_in b.1) _ (byte_is b.1) (λ c r.
    bind (IsByte c.1) (IsWord text) (byte_in c.1) _ (byte_is c.1) (λ d s.
    four_bytes a.0 b.0 c.0 d.0 text d.1 p.below q.below r.below s.below
    (p.is ∙ ap (λ (t : List ℕ). hex_byte a.0 ++ t) (q.is
    ∙ ap (λ (t : List ℕ). hex_byte b.0 ++ t) (r.is
    ∙ ap (λ (t : List ℕ). hex_byte c.0 ++ t) s.is)))))))
