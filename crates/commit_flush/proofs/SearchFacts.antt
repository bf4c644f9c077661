-- The least number from one up to another that passes a test.
use Rattle.std.proofs.Common.{◌≡◌, ℕ, zero, suc, ◌+◌, ◌-◌, ◌<◌, ◌≤◌, Bool, true, false, cond, Option, Some, None}
use Rattle.std.proofs.Common.{refl, sym, ap, ◌∙◌, arith}
use Rattle.trips_isa.specs.Tables.{or_else}
use Rattle.commit_flush_spec.specs.Frames.{numbers}
use Rattle.commit_flush_spec.specs.inside.NextEvent.{lowest, reads, slots}
use Rattle.commit_flush_spec.proofs.Stuck.{numbers_are}
use Rattle.commit_flush.proofs.StepFacts.{reads_are, slots_are}

-- one number more, which does not pass
pub passes : (test : ℕ → Bool) (k t : ℕ) → test k ≡ false → k < t
    → lowest test (t - k) k ≡ lowest test (t - (k + 1)) (k + 1)
passes test k t e l =
    let more : t - k ≡ suc (t - (k + 1)) = omega (arith, l) in
    let one : suc k ≡ k + 1 = omega arith in
    ap (λ n. lowest test n k) more
    ∙ ap (λ b. cond b (Some k) (lowest test (t - (k + 1)) (suc k))) e
    ∙ ap (lowest test (t - (k + 1))) one

-- or which passes
pub stops : (test : ℕ → Bool) (k t : ℕ) → test k ≡ true → k < t → lowest test (t - k) k ≡ Some k
stops test k t e l =
    let more : t - k ≡ suc (t - (k + 1)) = omega (arith, l) in
    ap (λ n. lowest test n k) more ∙ ap (λ b. cond b (Some k) (lowest test (t - (k + 1)) (suc k))) e

-- no number is left
pub over : (test : ℕ → Bool) (k t : ℕ) → t ≤ k → lowest test (t - k) k ≡ None
over test k t l = let e : t - k ≡ zero = omega (arith, l) in ap (λ n. lowest test n k) e

-- where none passes
nothing : (test : ℕ → Bool) (n k : ℕ) → ((i : ℕ) → k ≤ i → i < k + n → test i ≡ false) → lowest test n k ≡ None
nothing test zero k h = refl
nothing test (suc n) k h =
    ap (λ b. cond b (Some k) (lowest test n (suc k))) (h k (omega arith) (omega arith))
    ∙ nothing test n (suc k) (λ i a b. h i (omega (arith, a)) (omega (arith, b)))

-- a first part, and the rest
parts : (test : ℕ → Bool) (n m k : ℕ)
    → lowest test (n + m) k ≡ or_else (lowest test n k) (lowest test m (k + n))
parts test zero m k =
    let a : zero + m ≡ m = omega arith in
    let b : k ≡ k + zero = omega arith in
    ap (λ x. lowest test x k) a ∙ ap (lowest test m) b
parts test (suc n) m k =
    let a : suc n + m ≡ suc (n + m) = omega arith in
    let b : suc k + n ≡ k + suc n = omega arith in
    ap (λ x. lowest test x k) a ∙ go (test k) (parts test n m (suc k) ∙ ap (λ x. or_else (lowest test n (suc k))
    (lowest test m x)) b)
  where
    go : (v : Bool) → lowest test (n + m) (suc k) ≡ or_else (lowest test n (suc k)) (lowest test m (k + suc n))
        → cond v (Some k) (lowest test (n + m) (suc k))
        ≡ or_else (cond v (Some k) (lowest test n (suc k))) (lowest test m (k + suc n))
    go true e = refl
    go false e = e

-- the same from one number up to another
pub split : (test : ℕ → Bool) (k m t : ℕ) → k ≤ m → m ≤ t
    → lowest test (t - k) k ≡ or_else (lowest test (m - k) k) (lowest test (t - m) m)
split test k m t a b =
    let all : t - k ≡ (m - k) + (t - m) = omega (arith, a, b) in
    let here : k + (m - k) ≡ m = omega (arith, a) in
    ap (λ n. lowest test n k) all ∙ parts test (m - k) (t - m) k
    ∙ ap (λ x. or_else (lowest test (m - k) k) (lowest test (t - m) x)) here

-- where no number from k up to t passes a test, none is the lowest
pub none_between : (test : ℕ → Bool) (k t : ℕ) → k ≤ t → ((i : ℕ) → k ≤ i → i < t → test i ≡ false)
    → lowest test (t - k) k ≡ None
none_between test k t l h = nothing test (t - k) k (λ i a b. h i a (omega (arith, l, b)))

no_more : (a : Option ℕ) → or_else a None ≡ a
no_more None = refl
no_more (Some x) = refl

-- nothing passes from a number on
pub before : (test : ℕ → Bool) (k m t : ℕ) → k ≤ m → m ≤ t → ((i : ℕ) → m ≤ i → i < t → test i ≡ false)
    → lowest test (t - k) k ≡ lowest test (m - k) k
before test k m t a b h =
    split test k m t a b ∙ ap (or_else (lowest test (m - k) k)) (none_between test m t b h)
    ∙ no_more (lowest test (m - k) k)

-- nothing passes up to a number
pub behind : (test : ℕ → Bool) (k m t : ℕ) → k ≤ m → m ≤ t → ((i : ℕ) → k ≤ i → i < m → test i ≡ false)
    → lowest test (t - k) k ≡ lowest test (t - m) m
behind test k m t a b h =
    split test k m t a b ∙ ap (λ x. or_else x (lowest test (t - m) m)) (none_between test k m a h)

-- all numbers
pub whole : (test : ℕ → Bool) (n m : ℕ) (a : Option ℕ) → a ≡ lowest test (n - 0) 0 → n ≡ m → a ≡ lowest test m 0
whole test n m a e i = let z : n - 0 ≡ m = omega (arith, i) in e ∙ ap (λ x. lowest test x 0) z

-- all slots
pub of_slots : (test : ℕ → Bool) (a : Option ℕ) → a ≡ lowest test (128 - 0) 0 → a ≡ lowest test slots 0
of_slots test a e = whole test 128 slots a e (sym slots_are)

-- the reads of a block
pub of_reads : (test : ℕ → Bool) (x : ℕ) (a : Option ℕ) → x ≤ 32 → ((k : ℕ) → x ≤ k → test k ≡ false)
    → a ≡ lowest test (x - 0) 0 → a ≡ lowest test reads 0
of_reads test x a l off e =
    e ∙ sym (before test 0 x 32 (omega arith) l (λ k m n. off k m))
    ∙ (let z : 32 - 0 ≡ reads = omega (arith, reads_are) in ap (λ n. lowest test n 0) z)

-- all numbers, and none of them
pub of_numbers : (test : ℕ → Bool) (a : Option ℕ) → a ≡ lowest test (32 - 0) 0 → a ≡ lowest test numbers 0
of_numbers test a e = whole test 32 numbers a e (sym numbers_are)

-- where none of 32 numbers passes a test, none is the lowest
pub no_number : (test : ℕ → Bool) → ((k : ℕ) → k < 32 → test k ≡ false) → None ≡ lowest test numbers 0
no_number test off = of_numbers test None (sym (none_between test 0 32 (omega arith) (λ i a b. off i b)))
