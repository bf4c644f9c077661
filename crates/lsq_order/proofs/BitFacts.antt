-- Bits of words that are led up and down, and of masks.
use Rattle.std.proofs.Common.{◌≡◌, ℕ, zero, suc, ◌+◌, ◌-◌, ◌*◌, ◌/◌, ◌%◌, ◌^◌, ◌<◌, ◌≤◌, ◌⊎◌, inl, inr, true, false}
use Rattle.std.proofs.Common.{cond, not, nat_le, nat_lt, ◌==◌, ◌&&◌, refl, sym, ap, ap₂, ◌∙◌, arith, min, max}
use Rattle.std.proofs.Common.{bit_and, bit_or, w64}
use Rattle.std.specs.Int.{bit_at}
use Rattle.std.proofs.Math.Nat.{pow-le-pow_right, div-div-eq-div-mul}
use Rattle.std.proofs.lemmas.Nat.{pow-add, one_shl}
use Rattle.std.proofs.lemmas.Bool.{lt-leb, le-leb, lt-ltb, le-ltb, cases_lt, false≢true}
use Rattle.std.proofs.lemmas.Nat.Bits.{bit_at_and, bit_at_or, bit_at_not, bit_at-lt, bit_at-zero, bit_at_ones}
use Rattle.std.proofs.lemmas.Nat.Bits.{bit_at_ones_above}
use Rattle.std.proofs.lemmas.Nat.Bits.{bit_at_above, bit_at_cat_low, bit_at_cat_high}
use Rattle.base.specs.Rows.{has_bit}

-- tests of bits ----------------------------------------------------------------------------------

-- a bit that is 1 is set
pub is_set : (n i : ℕ) → bit_at n i ≡ 1 → has_bit n i ≡ true
is_set n i e = ap (λ z. z == 1) e

-- a bit that is 0 is not set
pub is_clear : (n i : ℕ) → bit_at n i ≡ 0 → has_bit n i ≡ false
is_clear n i e = ap (λ z. z == 1) e

-- a bit is 0 or 1
pub cases_bit : (n i : ℕ) → (bit_at n i ≡ 0) ⊎ (bit_at n i ≡ 1)
cases_bit n i = go (bit_at n i) (bit_at-lt n i)
  where
    go : (b : ℕ) → b < 2 → (b ≡ 0) ⊎ (b ≡ 1)
    go zero l = inl refl
    go (suc zero) l = inr refl
    go (suc (suc b)) l = absurd (omega arith)

-- no bit of 0 is set
pub none_set : (i : ℕ) → has_bit 0 i ≡ false
none_set i = is_clear 0 i (bit_at-zero i)

-- words led ---------------------------------------------------------------------------------------

-- a bit of the low part of a number
pub low_part : (k n i : ℕ) → i < k → bit_at (n % 2 ^ k) i ≡ bit_at n i
low_part k n i l =
    let split : n ≡ n / 2 ^ k * 2 ^ k + n % 2 ^ k = omega arith in
    sym (ap (λ m. bit_at m i) split ∙ bit_at_cat_low (n / 2 ^ k) k (n % 2 ^ k) i l)

-- the bits of a word shifted right by s are its bits from s on
pub led_down_by : (n s i : ℕ) → bit_at (n / 2 ^ s) i ≡ bit_at n (s + i)
led_down_by n s i = ap (λ k. k % 2) (div-div-eq-div-mul n (2 ^ s) (2 ^ i) ∙ ap (λ k. n / k) (sym (pow-add 2 s i)))

-- a word divided by a power of 256 has at each place the bit that many bytes higher
pub led_down_is : (n bytes i : ℕ) → bit_at (n / 2 ^ (8 * bytes)) i ≡ bit_at n (i + 8 * bytes)
led_down_is n bytes i =
    let same : 8 * bytes + i ≡ i + 8 * bytes = omega arith in
    led_down_by n (8 * bytes) i ∙ ap (bit_at n) same

-- a word led down by eight bytes or more has no bit left
pub led_out : (n bytes i : ℕ) → n < 2 ^ 64 → 8 ≤ bytes → bit_at 0 i ≡ bit_at n (i + 8 * bytes)
led_out n bytes i fits l = bit_at-zero i ∙ sym (bit_at_above n 64 (i + 8 * bytes) fits (omega arith))

pow_pos : (k : ℕ) → 0 < 2 ^ k
pow_pos k = let le = pow-le-pow_right {n = 2} (omega arith) {i = 0} {j = k} (omega arith) in omega (arith, le)

pub led_up_by : (n s i : ℕ) → i < 64 → s ≤ i → bit_at (n * 2 ^ s % 2 ^ 64) i ≡ bit_at n (i - s)
led_up_by n s i l up =
    let whole : n * 2 ^ s ≡ n * 2 ^ s + 0 = omega arith in
    low_part 64 (n * 2 ^ s) i l
    ∙ ap (λ m. bit_at m i) whole
    ∙ bit_at_cat_high n s 0 i (pow_pos s) up

-- a word multiplied by a power of 256 has at each place from there on the bit that many bytes lower
pub led_up_is : (n bytes i : ℕ) → i < 64 → 8 * bytes ≤ i
    → bit_at (n * 2 ^ (8 * bytes) % 2 ^ 64) i ≡ bit_at n (i - 8 * bytes)
led_up_is n bytes i l up = led_up_by n (8 * bytes) i l up

-- a word led up has no bit below
pub led_up_bits : (n s i : ℕ) → i < 64 → has_bit (n * 2 ^ s % 2 ^ 64) i ≡ (nat_le s i && has_bit n (i - s))
led_up_bits n s i l = go (cases_lt i s)
  where
    go : (i < s) ⊎ (s ≤ i) → has_bit (n * 2 ^ s % 2 ^ 64) i ≡ (nat_le s i && has_bit n (i - s))
    go (inl low) =
        let whole : n * 2 ^ s ≡ n * 2 ^ s + 0 = omega arith in
        is_clear (n * 2 ^ s % 2 ^ 64) i
        (low_part 64 (n * 2 ^ s) i l ∙ ap (λ m. bit_at m i) whole ∙ bit_at_cat_low n s 0 i low ∙ bit_at-zero i)
        ∙ sym (ap (λ b. b && has_bit n (i - s)) (lt-leb s i low))
    go (inr up) = ap (λ z. z == 1) (led_up_by n s i l up) ∙ sym (ap (λ b. b && has_bit n (i - s)) (le-leb s i up))

-- masks -------------------------------------------------------------------------------------------

-- the low k bits
pub ones_are : (k i : ℕ) → has_bit (2 ^ k - 1) i ≡ nat_lt i k
ones_are k i = go (cases_lt i k)
  where
    go : (i < k) ⊎ (k ≤ i) → has_bit (2 ^ k - 1) i ≡ nat_lt i k
    go (inl l) = is_set (2 ^ k - 1) i (bit_at_ones k i l) ∙ sym (lt-ltb i k l)
    go (inr l) = is_clear (2 ^ k - 1) i (bit_at_ones_above k i l) ∙ sym (le-ltb i k l)

-- of a mask of n bits, fewer than 64, exactly those below n are set
pub low_bits_few : (n i : ℕ) → n < 64 → has_bit (1 * 2 ^ n % 2 ^ 64 - 1) i ≡ nat_lt i n
low_bits_few n i l = ap (λ m. has_bit (m - 1) i) (one_shl n 64 l) ∙ ones_are n i

-- of a mask of all 64 bits each one is below any n from 64 on
pub low_bits_all : (n i : ℕ) → 64 ≤ n → i < 64 → has_bit (2 ^ 64 - 1) i ≡ nat_lt i n
low_bits_all n i l below = is_set (2 ^ 64 - 1) i (bit_at_ones 64 i below) ∙ sym (lt-ltb i n (omega arith))

-- of a mask of n bytes, fewer than 8, exactly the bits below 8 * n are set
pub low_bytes_few : (n i : ℕ) → n < 8 → has_bit (1 * 2 ^ (8 * n) % 2 ^ 64 - 1) i ≡ nat_lt i (8 * n)
low_bytes_few n i l = ap (λ m. has_bit (m - 1) i) (one_shl (8 * n) 64 (omega arith)) ∙ ones_are (8 * n) i

-- of a mask of all 8 bytes each bit is below 8 * n for any n from 8 on
pub low_bytes_all : (n i : ℕ) → 8 ≤ n → i < 64 → has_bit (2 ^ 64 - 1) i ≡ nat_lt i (8 * n)
low_bytes_all n i l below =
    is_set (2 ^ 64 - 1) i (bit_at_ones 64 i below) ∙ sym (lt-ltb i (8 * n) (omega arith))

-- a bit of two words' common bits is set in both
pub both_set : (a b i : ℕ) → has_bit (bit_and a b) i ≡ (has_bit a i && has_bit b i)
both_set a b i = go (cases_bit a i) (cases_bit b i) (bit_at_and a b i)
  where
    go : (bit_at a i ≡ 0) ⊎ (bit_at a i ≡ 1) → (bit_at b i ≡ 0) ⊎ (bit_at b i ≡ 1)
        → bit_at (bit_and a b) i ≡ min (bit_at a i) (bit_at b i)
        → has_bit (bit_and a b) i ≡ (has_bit a i && has_bit b i)
    go (inl x) (inl y) e = is_clear (bit_and a b) i (omega arith)
        ∙ sym (ap₂ (λ x y. x && y) (is_clear a i x) (is_clear b i y))
    go (inl x) (inr y) e = is_clear (bit_and a b) i (omega arith)
        ∙ sym (ap₂ (λ x y. x && y) (is_clear a i x) (is_set b i y))
    go (inr x) (inl y) e = is_clear (bit_and a b) i (omega arith)
        ∙ sym (ap₂ (λ x y. x && y) (is_set a i x) (is_clear b i y))
    go (inr x) (inr y) e = is_set (bit_and a b) i (omega arith)
        ∙ sym (ap₂ (λ x y. x && y) (is_set a i x) (is_set b i y))

-- a bit of a word's complement is set where the word's is not
pub not_set : (n i : ℕ) → n < 2 ^ 64 → i < 64 → has_bit (2 ^ 64 - 1 - n) i ≡ not (has_bit n i)
not_set n i fits l = go (cases_bit n i) (bit_at_not w64 n i fits l)
  where
    go : (bit_at n i ≡ 0) ⊎ (bit_at n i ≡ 1) → bit_at (2 ^ 64 - 1 - n) i ≡ 1 - bit_at n i
        → has_bit (2 ^ 64 - 1 - n) i ≡ not (has_bit n i)
    go (inl x) e = is_set (2 ^ 64 - 1 - n) i (omega arith) ∙ sym (ap not (is_clear n i x))
    go (inr x) e = is_clear (2 ^ 64 - 1 - n) i (omega arith) ∙ sym (ap not (is_set n i x))

-- the bits of a word where a mask is set, and of another elsewhere
pub merged : (a b t i : ℕ) → t < 2 ^ 64 → i < 64
    → bit_at (bit_or (bit_and a (2 ^ 64 - 1 - t)) (bit_and b t)) i ≡ cond (has_bit t i) (bit_at b i) (bit_at a i)
merged a b t i fits l = go (cases_bit t i) (bit_at-lt a i) (bit_at-lt b i)
    (bit_at_or (bit_and a (2 ^ 64 - 1 - t)) (bit_and b t) i) (bit_at_and a (2 ^ 64 - 1 - t) i) (bit_at_and b t i)
    (bit_at_not w64 t i fits l)
  where
    go : (bit_at t i ≡ 0) ⊎ (bit_at t i ≡ 1) → bit_at a i < 2 → bit_at b i < 2
        → bit_at (bit_or (bit_and a (2 ^ 64 - 1 - t)) (bit_and b t)) i
        ≡ max (bit_at (bit_and a (2 ^ 64 - 1 - t)) i) (bit_at (bit_and b t) i)
        → bit_at (bit_and a (2 ^ 64 - 1 - t)) i ≡ min (bit_at a i) (bit_at (2 ^ 64 - 1 - t) i)
        → bit_at (bit_and b t) i ≡ min (bit_at b i) (bit_at t i) → bit_at (2 ^ 64 - 1 - t) i ≡ 1 - bit_at t i
        → bit_at (bit_or (bit_and a (2 ^ 64 - 1 - t)) (bit_and b t)) i ≡ cond (has_bit t i) (bit_at b i) (bit_at a i)
    go (inl x) p q o m n c =
        let e : bit_at (bit_or (bit_and a (2 ^ 64 - 1 - t)) (bit_and b t)) i ≡ bit_at a i =
        omega (arith, x, p, q, o, m, n, c) in
        e ∙ sym (ap (λ z. cond z (bit_at b i) (bit_at a i)) (is_clear t i x))
    go (inr x) p q o m n c =
        let e : bit_at (bit_or (bit_and a (2 ^ 64 - 1 - t)) (bit_and b t)) i ≡ bit_at b i =
        omega (arith, x, p, q, o, m, n, c) in
        e ∙ sym (ap (λ z. cond z (bit_at b i) (bit_at a i)) (is_set t i x))

-- no bit of two words together is set where neither has one
pub or_clear : (a b i : ℕ) → i < 32 → has_bit (bit_or a b % 2 ^ 32) i ≡ false
    → (has_bit (a % 2 ^ 32) i ≡ false) × (has_bit (b % 2 ^ 32) i ≡ false)
or_clear a b i l e = go (cases_bit a i) (cases_bit b i) (bit_at_or a b i) (bit_at-lt a i) (bit_at-lt b i)
  where
    clash : bit_at (bit_or a b) i ≡ 1 → ⊥
    clash one = false≢true (sym e ∙ is_set (bit_or a b % 2 ^ 32) i (low_part 32 (bit_or a b) i l ∙ one))

    clear : (n : ℕ) → bit_at n i ≡ 0 → has_bit (n % 2 ^ 32) i ≡ false
    clear n z = is_clear (n % 2 ^ 32) i (low_part 32 n i l ∙ z)

    go : (bit_at a i ≡ 0) ⊎ (bit_at a i ≡ 1) → (bit_at b i ≡ 0) ⊎ (bit_at b i ≡ 1)
        → bit_at (bit_or a b) i ≡ max (bit_at a i) (bit_at b i) → bit_at a i < 2 → bit_at b i < 2
        → (has_bit (a % 2 ^ 32) i ≡ false) × (has_bit (b % 2 ^ 32) i ≡ false)
    go (inl x) (inl y) m p q = (clear a x, clear b y)
    go (inr x) y m p q = absurd (clash (omega (arith, x, m, p, q)))
    go (inl x) (inr y) m p q = absurd (clash (omega (arith, x, y, m, p, q)))
