-- Bits of words: those below 32, and those of two words together.
use Rattle.std.proofs.Common.{◌≡◌, ◌≢◌, ℕ, ◌*◌, ◌%◌, ◌^◌, ◌<◌, Bool, true, false, ◌==◌, min, max, sym, ap, ◌∙◌, arith}
use Rattle.std.proofs.Common.{bit_and, bit_or, w64}
use Rattle.std.specs.Int.{bit_at}
use Rattle.std.proofs.lemmas.Bool.{eq-eqb, ne_eqb, false≢true}
use Rattle.std.proofs.lemmas.Nat.Bits.{bit_at_and, bit_at_or, bit_at-lt, bit_at_ones, bit_at_set_same}
use Rattle.operand_net.specs.Marks.{has_bit}

-- the bits of 32 numbers
unfoldable pub low_32 : ℕ
low_32 = 4294967295

ones : (i : ℕ) → i < 32 → bit_at low_32 i ≡ 1
unfolding low_32
ones i l = bit_at_ones 32 i l

-- the low 32 bits of a word are its bits below 32
pub low_at : (n i : ℕ) → i < 32 → has_bit (bit_and n low_32) i ≡ has_bit n i
low_at n i l = ap (λ z. z == 1)
    (bit_at_and n low_32 i ∙ small (bit_at n i) (bit_at low_32 i) (bit_at-lt n i) (ones i l))
  where
    small : (x y : ℕ) → x < 2 → y ≡ 1 → min x y ≡ x
    small x y l e = omega arith

-- a bit that two words together lack is in neither
pub or_bits : (a b i : ℕ) → has_bit (bit_or a b) i ≡ false → (has_bit a i ≡ false) × (has_bit b i ≡ false)
or_bits a b i e = (ne_eqb (bit_at a i) 1 neither.0, ne_eqb (bit_at b i) 1 neither.1)
  where
    apart : (x y : ℕ) → x < 2 → y < 2 → max x y ≢ 1 → (x ≢ 1) × (y ≢ 1)
    apart x y lx ly ne = ((λ d. ne (omega arith)), (λ d. ne (omega arith)))

    neither : (bit_at a i ≢ 1) × (bit_at b i ≢ 1)
    neither = apart (bit_at a i) (bit_at b i) (bit_at-lt a i) (bit_at-lt b i)
        (λ d. false≢true (sym e ∙ eq-eqb (bit_at (bit_or a b) i) 1 (bit_at_or a b i ∙ d)))

-- a bit that was put is not lacking
pub bit_put : (n k : ℕ) → k < 64 → has_bit (bit_or n (1 * 2 ^ k % 2 ^ 64)) k ≡ false → ⊥
bit_put n k below e = false≢true (sym e ∙ ap (λ z. z == 1) (bit_at_set_same w64 n k below))
