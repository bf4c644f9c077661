-- Bits of words that are put together.
use Rattle.std.proofs.Common.{◌≡◌, ◌≢◌, ℕ, ◌+◌, ◌-◌, ◌*◌, ◌%◌, ◌^◌, ◌<◌, ◌≤◌, ◌⊎◌, inl, inr, Bool, true, false}
use Rattle.std.proofs.Common.{cond, ◌==◌, nat_lt, sym, ap, ◌∙◌, arith, bit_or}
use Rattle.std.specs.Int.{w32}
use Rattle.std.proofs.lemmas.Bool.{cases_lt, lt-ltb, le-ltb}
use Rattle.std.proofs.lemmas.Nat.Bits.{bit_at-zero, bit_at_cat_low, bit_at_cat_high, bit_at_set_same}
use Rattle.std.proofs.lemmas.Nat.Bits.{bit_at_set_other}
use Rattle.operand_net.specs.Marks.{has_bit}

-- no bit of 0 is set
pub no_bit : (s : ℕ) → has_bit 0 s ≡ false
no_bit s = ap (λ z. z == 1) (bit_at-zero s)

-- two words as one
pub joined_is : (low high s : ℕ) → low < 2 ^ 64
    → has_bit (high * 2 ^ 64 + low) s ≡ cond (nat_lt s 64) (has_bit low s) (has_bit high (s - 64))
joined_is low high s small = go (cases_lt s 64)
  where
    go : (s < 64) ⊎ (64 ≤ s)
        → has_bit (high * 2 ^ 64 + low) s ≡ cond (nat_lt s 64) (has_bit low s) (has_bit high (s - 64))
    go (inl l) = ap (λ z. z == 1) (bit_at_cat_low high 64 low s l)
        ∙ ap (λ b. cond b (has_bit low s) (has_bit high (s - 64))) (sym (lt-ltb s 64 l))
    go (inr l) = ap (λ z. z == 1) (bit_at_cat_high high 64 low s small l)
        ∙ ap (λ b. cond b (has_bit low s) (has_bit high (s - 64))) (sym (le-ltb s 64 l))
