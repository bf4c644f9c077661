-- What is shown of a name.
use Rattle.std.proofs.Common.{◌≡◌, ℕ, List, [], ◌∷◌, Bool, true, false, length, take, refl, ap, ◌∙◌}
use Rattle.std.specs.Prelude.{if◌then◌else◌}
use Rattle.trips_listing_text.specs.Comments.{is_shown, shown}

-- it is the front of that size
pub shown_front : (w : List ℕ) → take (length (shown w)) w ≡ shown w
shown_front [] = refl
shown_front (c ∷ cs) = go (is_shown c) (shown_front cs)
  where
    go : (b : Bool) → take (length (shown cs)) cs ≡ shown cs
        → take (length (if b then c ∷ shown cs else [])) (c ∷ cs) ≡ (if b then c ∷ shown cs else [])
    go true e = ap (λ (t : List ℕ). c ∷ t) e
    go false e = refl

-- so it is what the code cuts off
pub shown_is : (w front : List ℕ) (n : ℕ) → n ≡ length (shown w) → front ≡ take n w → front ≡ shown w
shown_is w front n e f = f ∙ ap (λ (m : ℕ). take m w) e ∙ shown_front w
