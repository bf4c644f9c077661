-- Lists by their places: what stands where one item is set, and what holds of each item.
use Rattle.std.proofs.Common.{◌≡◌, ◌≢◌, ℕ, zero, suc, List, [], ◌∷◌, ◌⊎◌, inl, inr, refl, ap, subst, arith}
use Rattle.std.specs.Prelude.{Some, All, slice_get, slice_set, get_or}
use Rattle.std.proofs.lemmas.Option.{slice_get_within, slice_get-get_or, get_or_from_slice_get, same_Some}

module _ {X : Type 0} where
  -- what holds of each item holds of the one at a place
  pub all_at : (P : X → Type 0) (xs : List X) → All P xs → (y : ℕ) (x : X) → slice_get xs y ≡ Some x → P x
  all_at P xs a y x e = subst P (get_or_from_slice_get xs y x x e) (a y x (slice_get_within xs y x e))

  -- what holds of the item at each place holds of each
  pub all_of : (P : X → Type 0) (xs : List X) → ((y : ℕ) (x : X) → slice_get xs y ≡ Some x → P x) → All P xs
  all_of P xs f = λ k d l. f k (get_or xs k d) (slice_get-get_or xs k d l)

  -- the item that was set stands at its place
  pub set_here : (xs : List X) (j : ℕ) (x m : X) → slice_get xs j ≡ Some x
      → slice_get (slice_set xs j m) j ≡ Some m
  set_here [] j x m e = absurd (cc)
  set_here (a ∷ xs) zero x m e = refl
  set_here (a ∷ xs) (suc j) x m e = set_here xs j x m e

  -- at other places all is as it was
  pub set_there : (xs : List X) (j y : ℕ) (m : X) → y ≢ j → slice_get (slice_set xs j m) y ≡ slice_get xs y
  set_there [] j y m d = refl
  set_there (a ∷ xs) zero zero m d = absurd (d refl)
  set_there (a ∷ xs) zero (suc y) m d = refl
  set_there (a ∷ xs) (suc j) zero m d = refl
  set_there (a ∷ xs) (suc j) (suc y) m d = set_there xs j y m (λ e. d (ap (λ (i : ℕ). suc i) e))

  -- an item is the one that was set, or stood there before
  pub set_origin : (xs : List X) (j y : ℕ) (m x : X) → slice_get (slice_set xs j m) y ≡ Some x
      → ((y ≡ j) × (m ≡ x)) ⊎ ((y ≢ j) × (slice_get xs y ≡ Some x))
  set_origin [] j y m x e = absurd (cc)
  set_origin (a ∷ xs) zero zero m x e = inl (refl, same_Some m x e)
  set_origin (a ∷ xs) zero (suc y) m x e = inr ((λ d. absurd (omega (arith, d))), e)
  set_origin (a ∷ xs) (suc j) zero m x e = inr ((λ d. absurd (omega (arith, d))), e)
  set_origin (a ∷ xs) (suc j) (suc y) m x e = up (set_origin xs j y m x e)
    where
      up : ((y ≡ j) × (m ≡ x)) ⊎ ((y ≢ j) × (slice_get xs y ≡ Some x))
          → ((suc y ≡ suc j) × (m ≡ x)) ⊎ ((suc y ≢ suc j) × (slice_get xs y ≡ Some x))
      up (inl d) = inl (ap (λ (i : ℕ). suc i) d.0, d.1)
      up (inr d) = inr ((λ z. d.0 (omega (arith, z))), d.1)
