-- What a station chooses: of the oldest frame the least number that passes, else of another frame.
use Rattle.std.proofs.Common.{◌≡◌, ℕ, zero, suc, ◌+◌, ◌<◌, ◌≤◌, ◌==◌, ◌⊎◌, inl, inr, Bool, true, false, cond}
use Rattle.std.proofs.Common.{List, [], ◌∷◌, Option, Some, None, refl, sym, ap, ◌∙◌, subst, arith}
use Rattle.std.proofs.lemmas.Bool.{cases_eq, both_ways, false_from_ne_true}
use Rattle.commit_flush_spec.specs.Frames.{Frame}
use Rattle.grid_cycle_spec.specs.Choosing.{least, found_in, eldest}
use Rattle.grid_bound.specs.inside.Lane.{any}
use Rattle.grid_bound.proofs.Counting.{any_true}
use Rattle.grid_bound.specs.inside.Behind.{Apart}

-- the least number below n that passes
pub record IsLeast (test : ℕ → Bool) (n j : ℕ) : Type 0 where
  pub below : j < n
  pub passes : test j ≡ true
  pub none : (i : ℕ) → i < j → test i ≡ false

first_or : (k i : ℕ) → k ≤ i → (k ≡ i) ⊎ (suc k ≤ i)
first_or k i l = go (cases_eq k i)
  where
    go : (k ≡ i) ⊎ (k ≡ i → ⊥) → (k ≡ i) ⊎ (suc k ≤ i)
    go (inl e) = inl e
    go (inr n) = inr (omega (arith, l, n))

least_some : (test : ℕ → Bool) (n k j : ℕ) → least test n k ≡ Some j
    → (k ≤ j) × (j < k + n) × (test j ≡ true) × ((i : ℕ) → k ≤ i → i < j → test i ≡ false)
least_some test zero k j e = absurd (cc)
least_some test (suc n) k j e = go (test k) refl e (least_some test n (suc k) j)
  where
    go : (b : Bool) → test k ≡ b → cond b (Some k) (least test n (suc k)) ≡ Some j
        → (least test n (suc k) ≡ Some j
        → (suc k ≤ j) × (j < suc k + n) × (test j ≡ true) × ((i : ℕ) → suc k ≤ i → i < j → test i ≡ false))
        → (k ≤ j) × (j < k + suc n) × (test j ≡ true) × ((i : ℕ) → k ≤ i → i < j → test i ≡ false)
    go true t h r =
        let same : k ≡ j = cc in (
          omega (arith, same),
          omega (arith, same),
          subst (λ i. test i ≡ true) same t,
          (λ i a b. absurd (omega (arith, same, a, b))),
        )
    go false t h r =
        let p = r h in
        let a : suc k ≤ j = p.0 in
        let b : j < suc k + n = p.1 in
        (omega (arith, a), omega (arith, b), p.2, (λ i l m. each i l m (first_or k i l)))
      where
        each : (i : ℕ) → k ≤ i → i < j → (k ≡ i) ⊎ (suc k ≤ i) → test i ≡ false
        each i l m (inl z) = subst (λ i. test i ≡ false) z t
        each i l m (inr z) = (r h).3 i z m

least_none : (test : ℕ → Bool) (n k : ℕ) → least test n k ≡ None → (i : ℕ) → k ≤ i → i < k + n → test i ≡ false
least_none test zero k e i a b = absurd (omega (arith, a, b))
least_none test (suc n) k e i a b = go (test k) refl e (λ h. least_none test n (suc k) h i)
  where
    go : (c : Bool) → test k ≡ c → cond c (Some k) (least test n (suc k)) ≡ None
        → (least test n (suc k) ≡ None → suc k ≤ i → i < suc k + n → test i ≡ false) → test i ≡ false
    go true t h r = absurd (cc)
    go false t h r = each (first_or k i a)
      where
        each : (k ≡ i) ⊎ (suc k ≤ i) → test i ≡ false
        each (inl z) = subst (λ i. test i ≡ false) z t
        each (inr z) = r h z (omega (arith, b))

-- a least number that was found is the least that passes
pub is_least : (test : ℕ → Bool) (n j : ℕ) → least test n 0 ≡ Some j → IsLeast test n j
is_least test n j e =
    let p = least_some test n 0 j e in
    let l : j < 0 + n = p.1 in
    record { below = omega (arith, l); passes = p.2; none = λ i m. p.3 i (omega arith) m }

-- where no least number was found none passes
pub none_least : (test : ℕ → Bool) (n : ℕ) → least test n 0 ≡ None → (i : ℕ) → i < n → test i ≡ false
none_least test n e i l = least_none test n 0 e i (omega arith) (omega (arith, l))

-- what is chosen of other frames is of another number
pub elder_other : (test : Frame → ℕ → Bool) (m n : ℕ) (fs : List Frame) (q : ℕ × ℕ) → Apart n fs
    → eldest test m fs ≡ Some q → (n == q.0) ≡ false
elder_other test m n [] q a e = absurd (cc)
elder_other test m n (f ∷ fs) q a e = go (least (test f) m 0) e (elder_other test m n fs q a.1)
  where
    go : (o : Option ℕ) → found_in f o (eldest test m fs) ≡ Some q → (eldest test m fs ≡ Some q → (n == q.0) ≡ false)
        → (n == q.0) ≡ false
    go None h r = r h
    go (Some k) h r = let same : (f.number, k) ≡ q = cc in ap (λ (p : ℕ × ℕ). n == p.0) (sym same) ∙ a.0

-- none passes below a number
pub none_any : (p : ℕ → Bool) (n : ℕ) → ((x : ℕ) → x < n → p x ≡ false) → any n p ≡ false
none_any p n h = false_from_ne_true (any n p)
    (λ e. let r : (x : ℕ) × (x < n) × (p x ≡ true) = any_true n p e in both_ways (p r.0) (h r.0 r.1) r.2)
