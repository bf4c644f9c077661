-- The next number of a mask, by its leading and trailing zeros.
use Rattle.std.proofs.Common.{◌≡◌, ℕ, suc, ◌+◌, ◌-◌, ◌*◌, ◌/◌, ◌%◌, ◌^◌, ◌<◌, ◌≤◌, ◌⊎◌, inl, inr, Bool, true, false}
use Rattle.std.proofs.Common.{◌==◌, ◌&&◌, refl, sym, ap, ◌∙◌, arith, bit_and, w64, min, pow-suc}
use Rattle.std.specs.Int.{bit_at, leading_zeros, trailing_zeros}
use Rattle.std.proofs.lemmas.Nat.{and_le_l, leading_top, one_shl}
use Rattle.std.proofs.lemmas.Bool.{lt-ltb, cases_lt}
use Rattle.std.proofs.lemmas.Nat.Bits.{bit_at_above, bit_at-trailing_zeros, bit_at_and, bit_at_ones_above}
use Rattle.std.proofs.lemmas.Nat.Bits.{bit_at_cat_high}
use Rattle.base.specs.Rows.{has_bit}
use Rattle.lsq_order.specs.inside.Masks.{IsEnd, IsNext}
use Rattle.lsq_order.proofs.BitFacts.{is_clear, none_set, both_set, ones_are, led_down_by}

-- the highest bit of a number
top_bit : (n j : ℕ) → 2 ^ j ≤ n → n < 2 ^ suc j → bit_at n j ≡ 1
top_bit n j high above =
    let double : 2 ^ suc j ≡ 2 ^ j * 2 = pow-suc 2 j in
    let split : n ≡ 1 * 2 ^ j + (n - 2 ^ j) = omega (arith, high) in
    let same : j - j ≡ 0 = omega arith in
    ap (λ m. bit_at m j) split
    ∙ bit_at_cat_high 1 j (n - 2 ^ j) j (omega (arith, above, double)) (omega arith)
    ∙ ap (bit_at 1) same

-- a bit that a mask of the low bits keeps
kept : (mask below i : ℕ) → below ≤ 32 → i < below
    → has_bit mask i ≡ has_bit (bit_and mask (1 * 2 ^ below % 2 ^ 64 - 1)) i
kept mask below i small l =
    let ones : has_bit (1 * 2 ^ below % 2 ^ 64 - 1) i ≡ true =
    ap (λ m. has_bit (m - 1) i) (one_shl below 64 (omega arith)) ∙ ones_are below i ∙ lt-ltb i below l in
    sym (both_set mask (1 * 2 ^ below % 2 ^ 64 - 1) i ∙ ap (λ b. has_bit mask i && b) ones
    ∙ and_true (has_bit mask i))
  where
    and_true : (b : Bool) → (b && true) ≡ b
    and_true true = refl
    and_true false = refl

-- a mask leaves no more than there is
pub small_and : (a b : ℕ) → a < 2 ^ 64 → bit_and a b < 2 ^ 64
small_and a b l = let le : bit_and a b ≤ a = and_le_l a b in omega (arith, l, le)

-- no bit below is set where the mask has none left
pub no_end : (mask below bits : ℕ) → below ≤ 32 → bits ≡ bit_and mask (1 * 2 ^ below % 2 ^ 64 - 1) → bits ≡ 0
    → IsEnd mask below 0
no_end mask below bits small is e = record {
  within = omega arith;
  none = λ i from l. kept mask below i small l ∙ ap (λ b. has_bit b i) (sym is ∙ e) ∙ none_set i;
}

-- where bits of a mask are set below a number, its end below it is behind the highest of them
pub some_end : (mask below bits : ℕ) → below ≤ 32 → bits ≡ bit_and mask (1 * 2 ^ below % 2 ^ 64 - 1) → 0 < bits
    → bits < 2 ^ 64 → IsEnd mask below (64 - leading_zeros w64 bits)
some_end mask below bits small is some fits = go (leading_top 64 bits some fits)
  where
    no_top : (j : ℕ) → bit_at bits j ≡ 1 → bit_at bits j ≡ min (bit_at mask j) (bit_at (1 * 2 ^ below % 2 ^ 64 - 1) j)
        → bit_at (1 * 2 ^ below % 2 ^ 64 - 1) j ≡ 0 → ⊥
    no_top j one both none = omega (arith, one, both, none)

    -- the highest bit is below
    inside : (j : ℕ) → 2 ^ j ≤ bits → bits < 2 ^ suc j → (j < below) ⊎ (below ≤ j) → j < below
    inside j high above (inl l) = l
    inside j high above (inr l) = absurd (no_top j (top_bit bits j high above)
        (ap (λ b. bit_at b j) is ∙ bit_at_and mask (1 * 2 ^ below % 2 ^ 64 - 1) j)
        (ap (λ m. bit_at (m - 1) j) (one_shl below 64 (omega arith)) ∙ bit_at_ones_above below j l))

    go : (j : ℕ) × (leading_zeros w64 bits + suc j ≡ 64) × (2 ^ j ≤ bits) × (bits < 2 ^ suc j)
        → IsEnd mask below (64 - leading_zeros w64 bits)
    go (j, e, high, above) =
        let z : 64 - leading_zeros w64 bits ≡ suc j = omega (arith, e) in
        let low : j < below = inside j high above (cases_lt j below) in
        record {
          within = omega (arith, z, low);
          none = λ i from l. kept mask below i small l ∙ ap (λ b. has_bit b i) (sym is)
              ∙ is_clear bits i (bit_at_above bits (suc j) i above (omega (arith, z, from)));
        }

-- a bit from a number on, by the mask led down
led : (mask from i : ℕ) → from ≤ i → has_bit mask i ≡ has_bit (mask / 2 ^ from) (i - from)
led mask from i l = let same : from + (i - from) ≡ i = omega arith in
    ap (has_bit mask) (sym same) ∙ sym (ap (λ z. z == 1) (led_down_by mask from (i - from)))

-- where no bit of a mask is set from a number on, its next number is 32
pub no_next : (mask from rest : ℕ) → from ≤ 32 → rest ≡ mask / 2 ^ from → rest ≡ 0 → IsNext mask from 32
no_next mask from rest small is e = record {
  onward = small;
  within = omega arith;
  none = λ i on l. led mask from i on ∙ ap (λ b. has_bit b (i - from)) (sym is ∙ e) ∙ none_set (i - from);
}

-- where a bit of a mask is set from a number on, its next number is the lowest such bit
pub some_next : (mask from rest : ℕ) → rest ≡ mask / 2 ^ from → mask < 2 ^ 32 → 0 < rest → rest < 2 ^ 64
    → IsNext mask from (from + trailing_zeros w64 rest)
some_next mask from rest is small some fits = go (bit_at-trailing_zeros w64 rest some fits)
  where
    none_past : (b : ℕ) → b ≡ 1 → b ≡ 0 → ⊥
    none_past b e z = omega (arith, e, z)

    inside : bit_at rest (trailing_zeros w64 rest) ≡ 1
        → (from + trailing_zeros w64 rest < 32) ⊎ (32 ≤ from + trailing_zeros w64 rest)
        → from + trailing_zeros w64 rest ≤ 32
    inside one (inl l) = omega (arith, l)
    inside one (inr l) = absurd (none_past (bit_at rest (trailing_zeros w64 rest)) one
        (ap (λ b. bit_at b (trailing_zeros w64 rest)) is ∙ led_down_by mask from (trailing_zeros w64 rest)
        ∙ bit_at_above mask 32 (from + trailing_zeros w64 rest) small l))

    go : (trailing_zeros w64 rest < 64) × (bit_at rest (trailing_zeros w64 rest) ≡ 1)
        × ((i : ℕ) → i < trailing_zeros w64 rest → bit_at rest i ≡ 0)
        → IsNext mask from (from + trailing_zeros w64 rest)
    go (l, one, below) = record {
      onward = omega arith;
      within = inside one (cases_lt (from + trailing_zeros w64 rest) 32);
      none = λ i on l. led mask from i on ∙ ap (λ b. has_bit b (i - from)) (sym is)
          ∙ is_clear rest (i - from) (below (i - from) (omega (arith, on, l)));
    }
