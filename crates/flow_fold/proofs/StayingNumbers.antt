-- Numbers of the nodes that stay, where the nodes that go do so one after the other, the last first.
use Rattle.std.proofs.Common.{◌≡◌, ◌≢◌, ℕ, zero, suc, ◌<◌, ◌≤◌, ◌⊎◌, inl, inr, refl, sym, ap, ◌∙◌, arith}
use Rattle.std.proofs.Common.{cond, nat_eq, nat_lt, Bool, true, false, ◌||◌}
use Rattle.std.proofs.lemmas.Bool.{cases_lt, lt-ltb, le-ltb, eqb-true, eqb-false, ne_eqb, eq-eqb}
use Rattle.flow_fold.specs.inside.Sweeps.{lower}
use Rattle.flow_fold.specs.inside.SweepsAll.{number}
use Rattle.flow_fold.proofs.Lowered.{lower_below, lower_same, lower_next}

-- behind a node that stays numbers go on
pub number_on : (s : ℕ → Bool) (j : ℕ) → s j ≡ true → number s (suc j) ≡ suc (number s j)
number_on s j e = ap (λ (b : Bool). cond b (suc (number s j)) (number s j)) e

-- behind one that goes they do not
pub number_off : (s : ℕ → Bool) (j : ℕ) → s j ≡ false → number s (suc j) ≡ number s j
number_off s j e = ap (λ (b : Bool). cond b (suc (number s j)) (number s j)) e

either_way : (b : Bool) (i : ℕ) → i ≤ cond b (suc i) i
either_way true i = omega arith
either_way false i = omega arith

-- numbers never fall
pub number_grows : (s : ℕ → Bool) (j : ℕ) → number s j ≤ number s (suc j)
number_grows s j = either_way (s j) (number s j)

module _ (s : ℕ → Bool) where
  -- the nodes below a bound stay beside those that stay anyway
  abbrev pub upto : ℕ → ℕ → Bool
  upto p j = nat_lt j p || s j

  -- below it each does
  pub stays_low : (p j : ℕ) → j < p → upto p j ≡ true
  stays_low p j l = ap (λ (b : Bool). b || s j) (lt-ltb j p l)

  -- from it on those that do
  pub stays_high : (p j : ℕ) → p ≤ j → upto p j ≡ s j
  stays_high p j l = ap (λ (b : Bool). b || s j) (le-ltb j p l)

  -- a bound tells from the next by its own node alone
  pub stays_same : (p j : ℕ) → j ≢ p → upto (suc p) j ≡ upto p j
  stays_same p j d = go (cases_lt j p)
    where
      go : (j < p) ⊎ (p ≤ j) → upto (suc p) j ≡ upto p j
      go (inl l) = stays_low (suc p) j (omega (arith, l)) ∙ sym (stays_low p j l)
      go (inr l) = stays_high (suc p) j (omega (arith, l, d)) ∙ sym (stays_high p j l)

  -- up to the bound numbers stay
  pub number_low : (p j : ℕ) → j ≤ p → number (upto p) j ≡ j
  number_low p zero l = refl
  number_low p (suc j) l =
      let a = number_low p j (omega (arith, l)) in
      number_on (upto p) j (stays_low p j (omega (arith, l))) ∙ ap (λ (i : ℕ). suc i) a

  -- behind the next bound's last node they are greater
  pub number_high : (p j : ℕ) → p < j → p < number (upto (suc p)) j
  number_high p zero l = absurd (omega (arith, l))
  number_high p (suc j) l = go (λ m. number_high p j m) (cases_lt p j)
    where
      go : (p < j → p < number (upto (suc p)) j) → (p < j) ⊎ (j ≤ p) → p < number (upto (suc p)) (suc j)
      go again (inl m) =
          let a = again m in
          let c = number_grows (upto (suc p)) j in
          omega (arith, a, c)
      go again (inr m) =
          let a = number_low (suc p) (suc j) (omega (arith, m)) in
          omega (arith, a, l)

  -- that node alone keeps its number
  pub number_only : (p j : ℕ) → number (upto (suc p)) j ≡ p → j ≡ p
  number_only p j e = go (cases_lt p j)
    where
      go : (p < j) ⊎ (j ≤ p) → j ≡ p
      go (inl m) = let a = number_high p j m in absurd (omega (arith, a, e))
      go (inr m) = let a = number_low (suc p) j (omega (arith, m)) in omega (arith, a, e)

  -- it goes next
  pub number_down : (p : ℕ) → s p ≡ false → (j : ℕ)
      → lower p (number (upto (suc p)) j) ≡ number (upto p) j
  number_down p goes zero = lower_below p 0 (omega arith)
  number_down p goes (suc j) = go (number_down p goes j) (nat_eq j p) refl
    where
      apart : nat_eq j p ≡ false → nat_eq (number (upto (suc p)) j) p ≡ false
      apart e = ne_eqb (number (upto (suc p)) j) p (λ z. eqb-false j p e (number_only p j z))

      by_stay : lower p (number (upto (suc p)) j) ≡ number (upto p) j → nat_eq j p ≡ false → (b : Bool)
          → upto p j ≡ b → lower p (number (upto (suc p)) (suc j)) ≡ number (upto p) (suc j)
      by_stay r e true t =
          ap (lower p) (number_on (upto (suc p)) j (stays_same p j (eqb-false j p e) ∙ t))
          ∙ (lower_next p (number (upto (suc p)) j) (apart e)
          ∙ (ap (λ (i : ℕ). suc i) r ∙ sym (number_on (upto p) j t)))
      by_stay r e false t =
          ap (lower p) (number_off (upto (suc p)) j (stays_same p j (eqb-false j p e) ∙ t))
          ∙ (r ∙ sym (number_off (upto p) j t))

      go : lower p (number (upto (suc p)) j) ≡ number (upto p) j → (b : Bool) → nat_eq j p ≡ b
          → lower p (number (upto (suc p)) (suc j)) ≡ number (upto p) (suc j)
      go r true e =
          let i = eqb-true j p e in
          let n = number_low (suc p) j (omega (arith, i)) in
          let same : nat_eq (number (upto (suc p)) j) p ≡ true = eq-eqb (number (upto (suc p)) j) p (n ∙ i) in
          let on = stays_low (suc p) j (omega (arith, i)) in
          let off = stays_high p j (omega (arith, i)) ∙ (ap s i ∙ goes) in
          ap (lower p) (number_on (upto (suc p)) j on)
          ∙ (lower_same p (number (upto (suc p)) j) same ∙ (r ∙ sym (number_off (upto p) j off)))
      go r false e = by_stay r e (upto p j) refl
