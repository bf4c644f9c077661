-- Searching finds the least number that passes a test, and none exactly where none passes.
use Rattle.std.proofs.Common.{◌≡◌, ℕ, zero, suc, ◌+◌, ◌<◌, ◌≤◌, Bool, true, false, cond, ◌↔◌, inl, inr}
use Rattle.std.proofs.Common.{Some, None, refl, sym, ap, ◌∙◌, true≢false, arith}
use Rattle.block_cases.specs.Orders.{NoneBelow}
use Rattle.block_cases.specs.inside.Orders.{IsLeast}
use Rattle.commit_flush_spec.proofs.Lists.{equal_or}
use Rattle.commit_flush_spec.specs.inside.NextEvent.{lowest}
use Rattle.commit_flush_spec.proofs.Search.{lowest_is, lowest_none}

-- what stands before the found number does not pass
before : (test : ℕ → Bool) (n k j : ℕ) → lowest test n k ≡ Some j → (i : ℕ) → k ≤ i → i < j → test i ≡ false
before test zero k j e i l m = absurd (cc)
before test (suc n) k j e i l m = go (test k) refl e (λ h a. before test n (suc k) j h i a m)
  where
    go : (b : Bool) → test k ≡ b → cond b (Some k) (lowest test n (suc k)) ≡ Some j
        → (lowest test n (suc k) ≡ Some j → suc k ≤ i → test i ≡ false) → test i ≡ false
    go true t h rest = let same : k ≡ j = cc in absurd (omega (arith, same, l, m))
    go false t h rest = elim (equal_or i k) [ inl z ↦ ap test z ∙ t | inr z ↦ rest h (omega (arith, l, z)) ]

-- a number that passes where none before it does is found
found : (test : ℕ → Bool) (n k j : ℕ) → k ≤ j → j < k + n → test j ≡ true
    → ((i : ℕ) → k ≤ i → i < j → test i ≡ false) → lowest test n k ≡ Some j
found test zero k j a l t first = absurd (omega (arith, a, l))
found test (suc n) k j a l t first =
    go (test k) refl (λ b. found test n (suc k) j b (omega (arith, l)) t (λ i c d. first i (omega (arith, c)) d))
  where
    go : (b : Bool) → test k ≡ b → (suc k ≤ j → lowest test n (suc k) ≡ Some j)
        → cond b (Some k) (lowest test n (suc k)) ≡ Some j
    go true i rest = elim (equal_or k j) [
      | inl z ↦ ap Some z
      | inr z ↦ absurd (true≢false (sym i ∙ first k (omega arith) (omega (arith, a, z))))
    ]
    go false i rest = elim (equal_or k j) [
      | inl z ↦ absurd (true≢false (sym t ∙ sym (ap test z) ∙ i))
      | inr z ↦ rest (omega (arith, a, z))
    ]

none_passes : (test : ℕ → Bool) (n k : ℕ) → ((i : ℕ) → k ≤ i → i < k + n → test i ≡ false) → lowest test n k ≡ None
none_passes test zero k h = refl
none_passes test (suc n) k h =
    ap (λ b. cond b (Some k) (lowest test n (suc k))) (h k (omega arith) (omega arith))
    ∙ none_passes test n (suc k) (λ i a b. h i (omega (arith, a)) (omega (arith, b)))

-- the number that is found is the least that passes the test
pub finds : (test : ℕ → Bool) (n j : ℕ) → (lowest test n 0 ≡ Some j) ↔ IsLeast test n j
finds test n j = (
  λ h. let k = lowest_is test n 0 j h in record {
    below = (let l = k.1 in omega (arith, l));
    holds = k.0;
    least = λ i l. before test n 0 j h i (omega arith) l;
  },
  λ h. let l = h.below in found test n 0 j (omega arith) (omega (arith, l)) h.holds (λ i a b. h.least i b),
)

-- none is found exactly where none passes the test
pub finds_none : (test : ℕ → Bool) (n : ℕ) → (lowest test n 0 ≡ None) ↔ NoneBelow test n
finds_none test n = (
  λ h j l. lowest_none test n 0 h j (omega arith) (omega (arith, l)),
  λ h. none_passes test n 0 (λ i a b. h i (omega (arith, b))),
)
