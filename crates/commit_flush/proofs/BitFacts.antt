-- Bits of words that are set one after another.
use Rattle.std.proofs.Common.{◌≡◌, ◌≢◌, ℕ, ◌+◌, ◌*◌, ◌%◌, ◌^◌, ◌<◌, ◌≤◌, ◌⊎◌, inl, inr, Bool, true, false}
use Rattle.std.proofs.Common.{◌==◌, ◌&&◌, ◌||◌, nat_lt, refl, sym, ap, ◌∙◌, arith, bit_or, max, true≢false}
use Rattle.std.specs.Int.{bit_at, w32, w128}
use Rattle.std.proofs.Math.Nat.{pow-le-pow_right}
use Rattle.std.proofs.lemmas.Bool.{cases_lt, lt-ltb, le-ltb}
use Rattle.std.proofs.lemmas.Nat.Bits.{bit_at-zero, bit_at_above, bit_at_or, bit_at_set_same, bit_at_set_other}
use Rattle.base.specs.Rows.{has_bit}
use Rattle.lsq_order.proofs.BitFacts.{cases_bit, is_clear, is_set, low_part}

-- no bit of 0 is set
pub no_bit : (s : ℕ) → has_bit 0 s ≡ false
no_bit s = ap (λ z. z == 1) (bit_at-zero s)

-- a word with one more bit
pub bit_same : (n k i : ℕ) → k < 32 → i ≢ k → has_bit (bit_or n (1 * 2 ^ k % 2 ^ 32)) i ≡ has_bit n i
bit_same n k i below other = ap (λ z. z == 1) (bit_at_set_other w32 n k below i other)

-- a bit below 32 that is set is set
pub bit_here : (n k : ℕ) → k < 32 → has_bit (bit_or n (1 * 2 ^ k % 2 ^ 32)) k ≡ true
bit_here n k below = ap (λ z. z == 1) (bit_at_set_same w32 n k below)

-- to set one of 128 bits leaves each other
pub wide_same : (n k i : ℕ) → k < 128 → i ≢ k → has_bit (bit_or n (1 * 2 ^ k % 2 ^ 128)) i ≡ has_bit n i
wide_same n k i below other = ap (λ z. z == 1) (bit_at_set_other w128 n k below i other)

-- a bit below 128 that is set is set
pub wide_here : (n k : ℕ) → k < 128 → has_bit (bit_or n (1 * 2 ^ k % 2 ^ 128)) k ≡ true
wide_here n k below = ap (λ z. z == 1) (bit_at_set_same w128 n k below)

-- a bit that is set, or left as it is
pub set_true : (v b s : Bool) → v ≡ true → true ≡ s → v ≡ (b || s)
set_true v true true e w = e
set_true v true false e w = e
set_true v false true e w = e
set_true v false false e w = absurd (true≢false w)

-- to set a bit by what is not set leaves it
pub set_false : (b s : Bool) → false ≡ s → b ≡ (b || s)
set_false true true w = refl
set_false true false w = refl
set_false false s w = w

-- no number below 0 has a bit
pub none_yet : (p : ℕ → Bool) (k : ℕ) → has_bit 0 k ≡ (nat_lt k 0 && p k)
none_yet p k = no_bit k ∙ sym (ap (λ b. b && p k) (le-ltb k 0 (omega arith)))

-- one number more has its bit
pub one_more : (w v n m : ℕ) (set : Bool) (p : ℕ → Bool) → m ≡ n + 1
    → ((k : ℕ) → k ≢ n → has_bit v k ≡ has_bit w k) → has_bit v n ≡ (has_bit w n || set) → set ≡ p n
    → ((k : ℕ) → has_bit w k ≡ (nat_lt k n && p k)) → (k : ℕ) → has_bit v k ≡ (nat_lt k m && p k)
one_more w v n m set p next same here is rest k = go (cases_lt k n)
  where
    at_n : n ≡ k → has_bit v k ≡ (nat_lt k m && p k)
    at_n e =
        ap (has_bit v) (sym e) ∙ here
        ∙ ap (λ b. b || set) (rest n ∙ ap (λ b. b && p n) (le-ltb n n (omega arith)))
        ∙ is ∙ ap p e ∙ sym (ap (λ b. b && p k) (lt-ltb k m (omega (arith, next, e))))

    past : (n < k) ⊎ (k ≤ n) → n ≤ k → has_bit v k ≡ (nat_lt k m && p k)
    past (inl a) l =
        same k (λ e. absurd (omega (arith, a, e))) ∙ rest k
        ∙ ap (λ b. b && p k) (le-ltb k n (omega (arith, a)) ∙ sym (le-ltb k m (omega (arith, a, next))))
    past (inr a) l = at_n (omega (arith, a, l))

    go : (k < n) ⊎ (n ≤ k) → has_bit v k ≡ (nat_lt k m && p k)
    go (inl a) =
        same k (λ e. absurd (omega (arith, a, e))) ∙ rest k
        ∙ ap (λ b. b && p k) (lt-ltb k n a ∙ sym (lt-ltb k m (omega (arith, a, next))))
    go (inr a) = past (cases_lt n k) a

-- all numbers have their bits
pub all_set : (w n : ℕ) (p : ℕ → Bool) → ((k : ℕ) → has_bit w k ≡ (nat_lt k n && p k)) → (k : ℕ) → k < n
    → has_bit w k ≡ p k
all_set w n p rest k l = rest k ∙ ap (λ b. b && p k) (lt-ltb k n l)

-- also where the numbers past them have none
pub all_to : (w n : ℕ) (p : ℕ → Bool) → ((k : ℕ) → has_bit w k ≡ (nat_lt k n && p k))
    → ((k : ℕ) → n ≤ k → p k ≡ false)
    → (k : ℕ) → has_bit w k ≡ p k
all_to w n p rest past k = go (cases_lt k n)
  where
    go : (k < n) ⊎ (n ≤ k) → has_bit w k ≡ p k
    go (inl l) = all_set w n p rest k l
    go (inr l) = rest k ∙ ap (λ b. b && p k) (le-ltb k n l) ∙ sym (past k l)

-- the bits below a number alone
pub low_same : (n k i : ℕ) → i < k → has_bit (n % 2 ^ k) i ≡ has_bit n i
low_same n k i l = ap (λ z. z == 1) (low_part k n i l)

-- of the lower k bits of a word none from k on is set
pub low_clear : (n k i : ℕ) → k ≤ i → has_bit (n % 2 ^ k) i ≡ false
low_clear n k i l =
    let some = pow-le-pow_right {n = 2} (omega arith) {i = 0} {j = k} (omega arith) in
    is_clear (n % 2 ^ k) i (bit_at_above (n % 2 ^ k) k i (omega (arith, some)) l)

-- no bit of two words together is set where neither has one
pub both_clear : (a b i : ℕ) → has_bit (bit_or a b) i ≡ false → (has_bit a i ≡ false) × (has_bit b i ≡ false)
both_clear a b i e = go (cases_bit a i) (cases_bit b i) (bit_at_or a b i)
  where
    clash : bit_at (bit_or a b) i ≡ 1 → ⊥
    clash one = true≢false (sym (is_set (bit_or a b) i one) ∙ e)

    go : (bit_at a i ≡ 0) ⊎ (bit_at a i ≡ 1) → (bit_at b i ≡ 0) ⊎ (bit_at b i ≡ 1)
        → bit_at (bit_or a b) i ≡ max (bit_at a i) (bit_at b i)
        → (has_bit a i ≡ false) × (has_bit b i ≡ false)
    go (inl x) (inl y) m = (is_clear a i x, is_clear b i y)
    go (inr x) (inl y) m = absurd (clash (omega (arith, x, y, m)))
    go (inr x) (inr y) m = absurd (clash (omega (arith, x, y, m)))
    go (inl x) (inr y) m = absurd (clash (omega (arith, x, y, m)))
