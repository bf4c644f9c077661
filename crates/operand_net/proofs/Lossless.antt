-- A tick keeps what travels in each place.
use Rattle.std.proofs.Common.{◌≡◌, ℕ, zero, suc, ◌<◌, Bool, true, false, cond, ◌==◌, ◌⊎◌, ◌≢◌, inl, inr}
use Rattle.std.proofs.Common.{List, get_or, refl, sym, ap, ◌∙◌, arith}
use Rattle.std.proofs.lemmas.Bool.{cases_eq}
use Rattle.operand_net.specs.declared.parcel.Stand.{Stand}
use Rattle.operand_net.specs.declared.parcel.Trip.{Trip}
use Rattle.operand_net.specs.declared.parcel.Stand.TheVariants.{Nowhere, Away, Held}
use Rattle.operand_net.specs.Places.{Places}
use Rattle.operand_net.specs.Tick.{next_of, ticked, Ticked}
use Rattle.operand_net.specs.inside.Tick.{trip_of}

away_trip : (a b c : Bool) (h n m : ℕ) (t : Trip)
    → trip_of (cond a (Held t h) (cond b (cond c (Held t h) (Away t n)) (Away t m))) ≡ trip_of (Away t m)
away_trip true b c h n m t = refl
away_trip false true true h n m t = refl
away_trip false true false h n m t = refl
away_trip false false c h n m t = refl

ticked_trip : (free : Bool) (h : ℕ) (s : Stand) → trip_of (ticked free h s) ≡ trip_of s
ticked_trip free h Nowhere = refl
ticked_trip free h (Held t zero) = refl
ticked_trip free h (Held t (suc k)) = refl
ticked_trip free h (Away t a) = away_trip (a == t.to) free (next_of a t.to == t.to) h (next_of a t.to) a t

-- whether a frame is one of the first n of an order, and at which age
of_age : (n f : ℕ) (order : List ℕ) → ((a : ℕ) × (a < n) × (get_or order a 0 ≡ f)) ⊎
    ((a : ℕ) → a < n → get_or order a 0 ≡ f → ⊥)
of_age zero f order = inr (λ a l e. absurd (omega arith))
of_age (suc n) f order = go (cases_eq (get_or order n 0) f) (of_age n f order)
  where
    go : (get_or order n 0 ≡ f) ⊎ (get_or order n 0 ≢ f)
        → ((a : ℕ) × (a < n) × (get_or order a 0 ≡ f)) ⊎ ((a : ℕ) → a < n → get_or order a 0 ≡ f → ⊥)
        → ((a : ℕ) × (a < suc n) × (get_or order a 0 ≡ f)) ⊎ ((a : ℕ) → a < suc n → get_or order a 0 ≡ f → ⊥)
    go (inl e) h = inl (n, omega arith, e)
    go (inr ne) (inl h) = let l : h.0 < n = h.1 in inl (h.0, omega arith, h.2)
    go (inr ne) (inr none) = inr (λ a l e. last a l e (cases_eq a n))
      where
        last : (a : ℕ) → a < suc n → get_or order a 0 ≡ f → (a ≡ n) ⊎ (a ≢ n) → ⊥
        last a l e (inl d) = ne (ap (λ z. get_or order z 0) (sym d) ∙ e)
        last a l e (inr d) = none a (omega arith) e

-- what travels in a place of a frame before a tick travels there after it
pub keeps_trips : {W : Type 0} (next : W → ℕ) (follows : W → W → Type 0) (order : List ℕ)
    (before after : Places) (v w : W) (n : ℕ)
    → Ticked next follows order before after v w n → (f p : ℕ) → p < 320 → trip_of (after f p) ≡ trip_of (before f p)
keeps_trips next follows order before after v w n t f p lp = go (of_age n f order)
  where
    go : ((a : ℕ) × (a < n) × (get_or order a 0 ≡ f)) ⊎ ((a : ℕ) → a < n → get_or order a 0 ≡ f → ⊥)
        → trip_of (after f p) ≡ trip_of (before f p)
    go (inl h) =
        ap (λ z. trip_of (after z p)) (sym h.2) ∙ ap trip_of ((t.frames h.0 h.1).turns p lp).stands
        ∙ ticked_trip _ _ (before (get_or order h.0 0) p) ∙ ap (λ z. trip_of (before z p)) h.2
    go (inr none) = ap trip_of (t.others f p none)
