-- Bits of words that are put together.
use Rattle.std.proofs.Common.{◌≡◌, ◌<◌, ◌-◌, ◌^◌, ◌==◌, ◌&&◌, ◌||◌, not, ℕ, suc, zero, refl}
use Rattle.std.proofs.Common.{ap, ◌∙◌, arith}
use Rattle.std.proofs.Common.{min, max}
use Rattle.std.specs.Int.{bit_at}
use mir.Syntax.{w64}
use Rattle.std.specs.Int.RustNames.{bit_or, bit_and}
use Rattle.std.proofs.lemmas.Nat.Bits.{bit_at_and, bit_at_or, bit_at_not, bit_at-lt}
use Rattle.base.specs.Rows.{has_bit}

one_max : (x y : ℕ) → x < 2 → y < 2 → (max x y == 1) ≡ ((x == 1) || (y == 1))
one_max zero zero h k = refl
one_max zero (suc zero) h k = refl
one_max (suc zero) zero h k = refl
one_max (suc zero) (suc zero) h k = refl
one_max zero (suc (suc y)) h k = absurd (omega arith)
one_max (suc zero) (suc (suc y)) h k = absurd (omega arith)
one_max (suc (suc x)) y h k = absurd (omega arith)

one_min : (x y : ℕ) → x < 2 → y < 2 → (min x y == 1) ≡ ((x == 1) && (y == 1))
one_min zero zero h k = refl
one_min zero (suc zero) h k = refl
one_min (suc zero) zero h k = refl
one_min (suc zero) (suc zero) h k = refl
one_min zero (suc (suc y)) h k = absurd (omega arith)
one_min (suc zero) (suc (suc y)) h k = absurd (omega arith)
one_min (suc (suc x)) y h k = absurd (omega arith)

one_not : (x : ℕ) → x < 2 → (1 - x == 1) ≡ not (x == 1)
one_not zero h = refl
one_not (suc zero) h = refl
one_not (suc (suc x)) h = absurd (omega arith)

-- a bit of the union of two words is set where it is set in one of them
pub has_or : (a b i : ℕ) → has_bit (bit_or a b) i ≡ (has_bit a i || has_bit b i)
has_or a b i = ap (λ z. z == 1) (bit_at_or a b i) ∙ one_max (bit_at a i) (bit_at b i) (bit_at-lt a i) (bit_at-lt b i)

-- a bit of two words' common bits is set in both
pub has_and : (a b i : ℕ) → has_bit (bit_and a b) i ≡ (has_bit a i && has_bit b i)
has_and a b i = ap (λ z. z == 1) (bit_at_and a b i)
    ∙ one_min (bit_at a i) (bit_at b i) (bit_at-lt a i) (bit_at-lt b i)

-- a bit of a word's complement is set where the word's is not
pub has_not : (b i : ℕ) → b < 2 ^ 64 → i < 64 → has_bit (2 ^ 64 - 1 - b) i ≡ not (has_bit b i)
has_not b i small near = ap (λ z. z == 1) (bit_at_not w64 b i small near) ∙ one_not (bit_at b i) (bit_at-lt b i)
