-- The least number for which a test holds, found by a walk.
use Rattle.std.proofs.Common.{◌≡◌, ℕ, zero, suc, ◌+◌, ◌<◌, ◌≤◌, Bool, true, false, cond, Some, None}
use Rattle.std.proofs.Common.{◌⊎◌, inl, inr, refl, sym, ap, ◌∙◌, arith}
use Rattle.std.proofs.Common.{◌≢◌}
use Rattle.std.proofs.lemmas.Bool.{cases_lt, cases_eq}
use Rattle.operand_net.specs.Marks.{has_bit}
use Rattle.operand_net.specs.inside.Marks.{IsLowestBit}
use Rattle.commit_flush_spec.specs.Frames.{numbers}
use Rattle.grid_cycle_spec.specs.Choosing.{least, slots, reads}
use Rattle.grid_parts.proofs.SlotFacts.{least_is, least_none}

-- a block has 128 slots
pub slots_are : slots ≡ 128
unfolding slots
slots_are = refl

-- a block has at most 32 reads
pub reads_are : reads ≡ 32
unfolding reads
reads_are = refl

-- a block has 32 numbers of loads and stores
pub numbers_are : numbers ≡ 32
unfolding numbers
numbers_are = refl

-- a test that agrees with another one
pub least_agrees : (f g : ℕ → Bool) (n k : ℕ) → ((i : ℕ) → k ≤ i → i < k + n → f i ≡ g i) → least f n k ≡ least g n k
least_agrees f g zero k is = refl
least_agrees f g (suc n) k is =
    ap (λ b. cond b (Some k) (least f n (suc k))) (is k (omega arith) (omega arith))
    ∙ ap (λ o. cond (g k) (Some k) o)
    (least_agrees f g n (suc k) (λ i l m. is i (omega arith) (omega arith)))

-- a walk over marked numbers alone -----------------------------------------------------------------

-- none of the numbers below r and below n passes
abbrev pub NoneWithin : (ℕ → Bool) → ℕ → ℕ → Type 0
NoneWithin test n r = (i : ℕ) → i < r → i < n → test i ≡ false

-- before the first number none passes the test
pub none_yet : (test : ℕ → Bool) (n : ℕ) → NoneWithin test n 0
none_yet test n i l m = absurd (omega arith)

-- where none below r passes the test and r does not, none below r + 1 does
pub one_within : (test : ℕ → Bool) (n r : ℕ) → NoneWithin test n r → test r ≡ false → NoneWithin test n (r + 1)
one_within test n r below here i l m = go (cases_lt i r)
  where
    go : (i < r) ⊎ (r ≤ i) → test i ≡ false
    go (inl a) = below i a m
    go (inr a) = let e : i ≡ r = omega arith in ap test e ∙ here

-- numbers without a mark are passed over
pub passed_over : (test : ℕ → Bool) (n word from bit : ℕ) → IsLowestBit word from bit
    → ((i : ℕ) → i < n → has_bit word i ≡ false → test i ≡ false) → NoneWithin test n from → NoneWithin test n bit
passed_over test n word from bit low unmarked before i l m = go (cases_lt i from)
  where
    go : (i < from) ⊎ (from ≤ i) → test i ≡ false
    go (inl a) = before i a m
    go (inr a) = unmarked i m (low.clear i a l)

-- where none below r passes the test and r does, r is the least that does
pub found_within : (test : ℕ → Bool) (n r : ℕ) → r < n → NoneWithin test n r → test r ≡ true → Some r ≡ least test n 0
found_within test n r l below here =
    sym (least_is test n 0 r (omega arith) (omega arith) here (λ i a b. below i b (omega arith)))

-- where none of all numbers passes the test, there is no least one
pub none_within : (test : ℕ → Bool) (n r : ℕ) → n ≤ r → NoneWithin test n r → None ≡ least test n 0
none_within test n r l below = sym (least_none test n 0 (λ i a b. below i (omega arith) (omega arith)))

-- where none is found, none passes
pub none_least : (test : ℕ → Bool) (n k : ℕ) → least test n k ≡ None → (i : ℕ) → k ≤ i → i < k + n → test i ≡ false
none_least test zero k e i from below = absurd (omega arith)
none_least test (suc n) k e i from below = go (test k) refl e (cases_eq i k) (none_least test n (suc k))
  where
    go : (b : Bool) → test k ≡ b → cond b (Some k) (least test n (suc k)) ≡ None → (i ≡ k) ⊎ (i ≢ k)
        → (least test n (suc k) ≡ None → (j : ℕ) → suc k ≤ j → j < suc k + n → test j ≡ false) → test i ≡ false
    go true t e c behind = absurd (cc)
    go false t e (inl d) behind = ap test d ∙ t
    go false t e (inr ne) behind = behind e i (omega (arith, ne)) (omega arith)
