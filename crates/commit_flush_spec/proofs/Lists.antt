-- What stands in a list of options or flags after one write.
use Rattle.std.proofs.Common.{◌≡◌, ◌≢◌, ℕ, zero, suc, ◌<◌, Bool, true, false, ◌⊎◌, inl, inr, List, [], ◌∷◌}
use Rattle.std.proofs.Common.{Option, Some, None, set, get_or, length, refl, sym, ap, subst, arith}
use Rattle.std.proofs.Common.{◌==◌, ◌∙◌, true≢false}
use Rattle.std.proofs.lemmas.Bool.Decides.{nat_tests}
use Rattle.commit_flush_spec.specs.Frames.{at, blank, unset, emptied}
use Rattle.commit_flush_spec.specs.inside.Invariant.{Below}

-- two numbers are the same or not
pub equal_or : (a b : ℕ) → (a ≡ b) ⊎ (a ≢ b)
equal_or a b = go (a == b) refl
  where
    go : (c : Bool) → (a == b) ≡ c → (a ≡ b) ⊎ (a ≢ b)
    go true e = inl (grind (arith, nat_tests))
    go false e = inr (λ z. let bad : (a == b) ≡ true = grind (arith, nat_tests, z) in true≢false (sym bad ∙ e))

module _ {A : Type 0} where
  -- each thing, come or not, is below itself
  pub below_refl : (t : Option A) → Below t t
  below_refl None = tt
  below_refl (Some t) = refl

  -- what has come is what is above it
  pub below_is : (t u : Option A) → Below t u → t ≢ None → t ≡ u
  below_is None u h n = absurd (n refl)
  below_is (Some t) u h n = h

  -- what is equal is below
  pub is_below : (t u : Option A) → t ≡ u → Below t u
  is_below None u e = tt
  is_below (Some t) u e = e

  -- what is below a thing is below what that is below
  pub below_trans : (t u v : Option A) → Below t u → Below u v → Below t v
  below_trans None u v h k = tt
  below_trans (Some t) u v h k = subst (λ w. Below w v) (sym h) k

  -- an option is none or not
  pub none_or : (t : Option A) → (t ≡ None) ⊎ (t ≢ None)
  none_or None = inl refl
  none_or (Some t) = inr (λ e. cc)

  -- to write what is below keeps a list below a table
  pub set_under : (xs : List (Option A)) (i : ℕ) (t : Option A) (G : ℕ → Option A)
      → ((q : ℕ) → Below (at xs q) (G q)) → Below t (G i) → (q : ℕ) → Below (at (set xs i t) q) (G q)
  set_under [] i t G h k q = h q
  set_under (x ∷ xs) zero t G h k zero = k
  set_under (x ∷ xs) zero t G h k (suc q) = h (suc q)
  set_under (x ∷ xs) (suc i) t G h k zero = h zero
  set_under (x ∷ xs) (suc i) t G h k (suc q) = set_under xs i t (λ y. G (suc y)) (λ y. h (suc y)) k q

  -- to write what is above a place makes a list that is above the old one
  pub set_over : (xs : List (Option A)) (i : ℕ) (t : Option A) → Below (at xs i) t → (q : ℕ)
      → Below (at xs q) (at (set xs i t) q)
  set_over [] i t h q = tt
  set_over (x ∷ xs) zero t h zero = h
  set_over (x ∷ xs) zero t h (suc q) = below_refl (at xs q)
  set_over (x ∷ xs) (suc i) t h zero = below_refl x
  set_over (x ∷ xs) (suc i) t h (suc q) = set_over xs i t h q

  -- a write leaves all other places
  pub other_at : (xs : List (Option A)) (i j : ℕ) (t : Option A) → j ≢ i → at (set xs i t) j ≡ at xs j
  other_at [] i j t n = refl
  other_at (x ∷ xs) zero zero t n = absurd (n refl)
  other_at (x ∷ xs) zero (suc j) t n = refl
  other_at (x ∷ xs) (suc i) zero t n = refl
  other_at (x ∷ xs) (suc i) (suc j) t n = other_at xs i j t (λ e. n (ap suc e))

  -- what stands there was written or stood there before
  pub written_or : (xs : List (Option A)) (i j : ℕ) (t : Option A) → at (set xs i t) j ≢ None
      → ((j ≡ i) × (t ≢ None)) ⊎ (at xs j ≢ None)
  written_or [] i j t h = inr h
  written_or (x ∷ xs) zero zero t h = inl (refl, h)
  written_or (x ∷ xs) zero (suc j) t h = inr h
  written_or (x ∷ xs) (suc i) zero t h = inr h
  written_or (x ∷ xs) (suc i) (suc j) t h =
      elim (written_or xs i j t h) [ inl p ↦ inl (ap suc p.0, p.1) | inr p ↦ inr p ]

  -- the same of a value
  pub given_or : (xs : List (Option A)) (i j : ℕ) (t : Option A) (v : A) → at (set xs i t) j ≡ Some v
      → ((j ≡ i) × (t ≡ Some v)) ⊎ (at xs j ≡ Some v)
  given_or [] i j t v h = inr h
  given_or (x ∷ xs) zero zero t v h = inl (refl, h)
  given_or (x ∷ xs) zero (suc j) t v h = inr h
  given_or (x ∷ xs) (suc i) zero t v h = inr h
  given_or (x ∷ xs) (suc i) (suc j) t v h =
      elim (given_or xs i j t v h) [ inl p ↦ inl (ap suc p.0, p.1) | inr p ↦ inr p ]

  -- a place where none is written holds none
  pub none_at : (xs : List (Option A)) (i : ℕ) → at (set xs i None) i ≡ None
  none_at [] i = refl
  none_at (x ∷ xs) zero = refl
  none_at (x ∷ xs) (suc i) = none_at xs i

  -- to write none somewhere leaves none where it was
  pub still_none : (xs : List (Option A)) (i j : ℕ) → at xs j ≡ None → at (set xs i None) j ≡ None
  still_none [] i j h = h
  still_none (x ∷ xs) zero zero h = refl
  still_none (x ∷ xs) zero (suc j) h = h
  still_none (x ∷ xs) (suc i) zero h = h
  still_none (x ∷ xs) (suc i) (suc j) h = still_none xs i j h

  -- what is written inside a list stands there
  pub set_here : (xs : List (Option A)) (i : ℕ) (t : Option A) → i < length xs → at (set xs i t) i ≡ t
  set_here [] i t h = absurd (omega arith)
  set_here (x ∷ xs) zero t h = refl
  set_here (x ∷ xs) (suc i) t h = set_here xs i t (omega arith)

  -- in a list of nothing each place holds none
  pub blank_at : (n q : ℕ) → at {A = A} (blank n) q ≡ None
  unfolding blank
  blank_at zero q = refl
  blank_at (suc n) zero = refl
  blank_at (suc n) (suc q) = blank_at n q

  -- in an emptied list each place holds none
  pub emptied_at : (xs : List (Option A)) (q : ℕ) → at (emptied xs) q ≡ None
  emptied_at [] q = refl
  emptied_at (x ∷ xs) zero = refl
  emptied_at (x ∷ xs) (suc q) = emptied_at xs q

  -- a list that is emptied keeps its length
  pub emptied_size : (xs : List (Option A)) → length (emptied xs) ≡ length xs
  emptied_size [] = refl
  emptied_size (x ∷ xs) = ap suc (emptied_size xs)

-- a list that is made empty has its length
pub blank_size : (A : Type 0) (n : ℕ) → length (blank {A = A} n) ≡ n
unfolding blank
blank_size A zero = refl
blank_size A (suc n) = ap suc (blank_size A n)

-- flags ----------------------------------------------------------------------------------------

-- a flag that is set stays set as another is set
pub flag_keeps : (xs : List Bool) (i j : ℕ) → get_or xs j false ≡ true → get_or (set xs i true) j false ≡ true
flag_keeps [] i j e = e
flag_keeps (x ∷ xs) zero zero e = refl
flag_keeps (x ∷ xs) zero (suc j) e = e
flag_keeps (x ∷ xs) (suc i) zero e = e
flag_keeps (x ∷ xs) (suc i) (suc j) e = flag_keeps xs i j e

-- a flag is set after one was set only where it is this one or was set before
pub flag_or : (xs : List Bool) (i j : ℕ) → get_or (set xs i true) j false ≡ true → (j ≡ i)
    ⊎ (get_or xs j false ≡ true)
flag_or [] i j e = inr e
flag_or (x ∷ xs) zero zero e = inl refl
flag_or (x ∷ xs) zero (suc j) e = inr e
flag_or (x ∷ xs) (suc i) zero e = inr e
flag_or (x ∷ xs) (suc i) (suc j) e = elim (flag_or xs i j e) [ inl p ↦ inl (ap suc p) | inr p ↦ inr p ]

-- a flag that is set inside a list is set
pub flag_here : (xs : List Bool) (i : ℕ) → i < length xs → get_or (set xs i true) i false ≡ true
flag_here [] i h = absurd (omega arith)
flag_here (x ∷ xs) zero h = refl
flag_here (x ∷ xs) (suc i) h = flag_here xs i (omega arith)

-- in a list of unset flags none is set
pub unset_at : (n q : ℕ) → get_or (unset n) q false ≡ false
unfolding unset
unset_at zero q = refl
unset_at (suc n) zero = refl
unset_at (suc n) (suc q) = unset_at n q

-- n flags that are made unset are n
pub unset_size : (n : ℕ) → length (unset n) ≡ n
unfolding unset
unset_size zero = refl
unset_size (suc n) = ap suc (unset_size n)

-- what stands in a list stands below its length
pub there_below : {A : Type 0} (xs : List (Option A)) (k : ℕ) → at xs k ≢ None → k < length xs
there_below [] k n = absurd (n refl)
there_below (x ∷ xs) zero n = omega arith
there_below (x ∷ xs) (suc k) n = let l = there_below xs k n in omega (arith, l)
