-- The lowest bit of a word.
use Rattle.std.proofs.Common.{◌≡◌, ◌≢◌, ℕ, zero, suc, ◌+◌, ◌-◌, ◌*◌, ◌<◌, ◌≤◌, ◌==◌, ◌^◌, Bool, true, false, List}
use Rattle.std.proofs.Common.{Option, Some, None, is_some, refl, sym, ap, ◌∙◌, arith, inl, inr, w64}
use Rattle.std.specs.Int.{trailing_zeros}
use Rattle.std.proofs.lemmas.Bool.{cases_lt}
use Rattle.std.proofs.lemmas.Nat.Bits.{bit_at-trailing_zeros, bit_at-zero}
use Rattle.trips_isa.specs.Rule.{Answer}
use Rattle.base.specs.Rows.{has_bit}
use Rattle.commit_flush_spec.specs.Frames.{at}
use Rattle.commit_flush_spec.specs.inside.NextEvent.{lowest, places, slots}
use Rattle.commit_flush.specs.inside.Bits.{IsLowestBit}
use Rattle.commit_flush.proofs.StepFacts.{places_are, slots_are}
use Rattle.commit_flush.proofs.SearchFacts.{behind, stops, over, none_between}

zero_bit : (i : ℕ) → has_bit 0 i ≡ false
zero_bit i = ap (λ z. z == 1) (bit_at-zero i)

-- a word without a bit
pub no_bit : (n : ℕ) → n ≡ 0 → IsLowestBit n 64
no_bit n e = record {
  within = omega arith;
  clear = λ i l. ap (λ z. has_bit z i) e ∙ zero_bit i;
  found = λ l. absurd (omega arith);
}

-- the lowest bit of another
pub low_bit : (n : ℕ) → n < 2 ^ 64 → n ≢ 0 → IsLowestBit n (trailing_zeros w64 n)
low_bit n fits some =
    let h = bit_at-trailing_zeros w64 n (pos n some) fits in
    record {
      within = (let l = h.0 in omega (arith, l));
      clear = λ i l. ap (λ z. z == 1) (h.2 i l);
      found = λ l. ap (λ z. z == 1) (h.1);
    }
  where
    pos : (k : ℕ) → k ≢ 0 → 0 < k
    pos zero h = absurd (h refl)
    pos (suc k) h = omega arith

-- items -----------------------------------------------------------------------------------------

pub nothing_there : {A : Type 0} → (t : Option A) → is_some t ≡ false → t ≡ None
nothing_there None e = refl
nothing_there (Some v) e = absurd (cc)

-- where the word of some items is 0 none of them is there
pub none_there : {A : Type 0} → (xs : List (Option A)) (w n : ℕ)
    → ((s : ℕ) → s < 64 → 64 * 0 + s < n → has_bit w s ≡ is_some (at xs (64 * 0 + s))) → w ≡ 0 → n ≤ 64
    → (k : ℕ) → k < n → at xs k ≡ None
none_there xs w n tells e few k l =
    let same : 64 * 0 + k ≡ k = omega arith in
    nothing_there (at xs k)
    (ap (λ j. is_some (at xs j)) (sym same) ∙ sym (tells k (omega (arith, l, few)) (omega (arith, l)))
    ∙ ap (λ z. has_bit z k) e ∙ zero_bit k)

-- a word more of the places, up to its lowest bit
pub word_more : (xs : List Answer) (k w bit : ℕ) → IsLowestBit w bit
    → ((s : ℕ) → s < 64 → 64 * k + s < 320 → has_bit w s ≡ is_some (at xs (64 * k + s))) → k < 5
    → ((p : ℕ) → p < 64 * k → at xs p ≡ None) → (p : ℕ) → p < 64 * k + bit → at xs p ≡ None
word_more xs k w bit low tells few old p l = elim (cases_lt p (64 * k)) [
  | inl h ↦ old p h
  | inr h ↦
      let most = low.within in
      let here : p - 64 * k < bit = omega (arith, h, l) in
      let near : p - 64 * k < 64 = omega (arith, here, most) in
      let same : 64 * k + (p - 64 * k) ≡ p = omega (arith, h) in
      nothing_there (at xs p)
      (ap (λ j. is_some (at xs j)) (sym same) ∙ sym (tells (p - 64 * k) near (omega (arith, near, few)))
      ∙ low.clear (p - 64 * k) here)
]

-- searches ---------------------------------------------------------------------------------------

-- nothing passes below a place
pub from_place : (test : ℕ → Bool) (m : ℕ) (a : Option ℕ) → m ≤ 320 → ((p : ℕ) → p < m → test p ≡ false)
    → a ≡ lowest test (320 - m) m → a ≡ lowest test places 0
from_place test m a l off e =
    e ∙ sym (behind test 0 m 320 (omega arith) l (λ i x y. off i y))
    ∙ (let z : 320 - 0 ≡ places = omega (arith, places_are) in ap (λ n. lowest test n 0) z)

-- where no place of 320 passes a test, none is the lowest
pub no_place : (test : ℕ → Bool) (m : ℕ) → m ≡ 320 → ((p : ℕ) → p < m → test p ≡ false)
    → None ≡ lowest test places 0
no_place test m e off =
    from_place test m None (omega (arith, e)) off (sym (over test m 320 (omega (arith, e))))

-- the lowest slot that passes, and none
slot_found : (test : ℕ → Bool) (k : ℕ) → k < 128 → test k ≡ true → ((i : ℕ) → i < k → test i ≡ false)
    → Some k ≡ lowest test slots 0
slot_found test k l here off =
    sym (behind test 0 k 128 (omega arith) (omega (arith, l)) (λ i x y. off i y) ∙ stops test k 128 here l)
    ∙ (let z : 128 - 0 ≡ slots = omega (arith, slots_are) in ap (λ n. lowest test n 0) z)

-- two words of slots
module _ (test : ℕ → Bool) (v a w b : ℕ) (low : IsLowestBit v a) (high : IsLowestBit w b)
    (lows : (s : ℕ) → s < 64 → has_bit v s ≡ test (64 * 0 + s))
    (highs : (s : ℕ) → s < 64 → has_bit w s ≡ test (64 * 1 + s)) where
  below : (i : ℕ) → i < a → i < 64 → test i ≡ false
  below i l m =
      let same : 64 * 0 + i ≡ i = omega arith in
      ap test (sym same) ∙ sym (lows i m) ∙ low.clear i l

  above : (i : ℕ) → 64 ≤ i → i < 64 + b → i < 128 → test i ≡ false
  above i l m n =
      let same : 64 * 1 + (i - 64) ≡ i = omega (arith, l) in
      ap test (sym same) ∙ sym (highs (i - 64) (omega (arith, l, n))) ∙ high.clear (i - 64) (omega (arith, l, m))

  both : 64 ≤ a → (i : ℕ) → i < 64 + b → i < 128 → test i ≡ false
  both full i l m = elim (cases_lt i 64) [
    | inl h ↦ below i (omega (arith, h, full)) h
    | inr h ↦ above i h l m
  ]

  -- where the lower word of two has no bit and the upper has one, the lowest slot is that of the upper
  pub by_high : 64 ≤ a → b < 64 → Some (64 + b) ≡ lowest test slots 0
  by_high full l = slot_found test (64 + b) (omega (arith, l)) (sym (highs b l) ∙ high.found l)
      (λ i m. both full i m (omega (arith, l, m)))

  -- where neither of two words has a bit, no slot is the lowest
  pub by_none : 64 ≤ a → 64 ≤ b → None ≡ lowest test slots 0
  by_none full done =
      sym (none_between test 0 128 (omega arith) (λ i x y. both full i (omega (arith, y, done)) y))
      ∙ (let z : 128 - 0 ≡ slots = omega (arith, slots_are) in ap (λ n. lowest test n 0) z)

-- where the lower word has a bit, the lowest slot is that of it
pub by_low : (test : ℕ → Bool) (v a : ℕ) → IsLowestBit v a
    → ((s : ℕ) → s < 64 → has_bit v s ≡ test (64 * 0 + s)) → a < 64 → Some a ≡ lowest test slots 0
by_low test v a low lows l =
    slot_found test a (omega (arith, l))
    ((let same : 64 * 0 + a ≡ a = omega arith in ap test (sym same)) ∙ sym (lows a l) ∙ low.found l)
    (λ i m. (let same : 64 * 0 + i ≡ i = omega arith in ap test (sym same))
    ∙ sym (lows i (omega (arith, m, l))) ∙ low.clear i m)
