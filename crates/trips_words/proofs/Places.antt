-- The places that are left for words that stand alone, and what was said before.
use Rattle.std.proofs.Common.{◌≡◌, ◌∙◌, refl, false, ℕ, ◌+◌, List, [], ◌∷◌, ◌++◌, Some}
use Rattle.trips_requests.specs.Words.{Text, Named, name_of, named, Said, is_said}
use Rattle.trips_words.specs.inside.Read.{HasPlaces, IsNoneOf}
use Rattle.trips_words.proofs.Rules.{not_place}
use Rattle.trips_words.proofs.Rows.{same_said}

-- nothing is said under these names
abbrev pub Unsaid : Said → List Text → Type 0
Unsaid said [] = Unit {0}
Unsaid said (place ∷ left) = (is_said place said ≡ false) × Unsaid said left

-- the next place has this number, and under none of those that are left something is said
pub record Stands (options : List Named) (places : List Text) (number : ℕ) (left : List Text) (said : Said)
    : Type 0 where
  pub has : HasPlaces options places number left
  pub unsaid : Unsaid said left

-- where nothing is said, it is said under no place
none_said : (left : List Text) → Unsaid [] left
none_said [] = tt
none_said (place ∷ left) = (refl, none_said left)

-- before the first word all places are left
pub stands_first : (options : List Named) (places : List Text) → HasPlaces options places 1 places
    → Stands options places 1 places []
stands_first options places has = record { has = has; unsaid = none_said places }

still_unsaid : (left : List Text) (said : Said) (s : Text × Text) → IsNoneOf s.0 left → Unsaid said left
    → Unsaid (said ++ s ∷ []) left
still_unsaid [] said s o u = tt
still_unsaid (place ∷ left) said s o u = (same_said said s place o.0 ∙ u.0, still_unsaid left said s o.1 u.1)

other_names : (options : List Named) (places : List Text) (number : ℕ) (left : List Text) (name : Text) (o : Named)
    → named name options ≡ Some o → HasPlaces options places number left
    → IsNoneOf (name_of o) left
other_names options places number [] name o e has = tt
other_names options places number (place ∷ left) name o e has = (
  not_place options name place o has.0.no_option e,
  other_names options places (number + 1) left name o e has.1,
)

-- an option that is said leaves the places as they were
pub stands_by : (options : List Named) (places : List Text) (number : ℕ) (left : List Text) (said : Said)
    (name : Text) (o : Named) (value : Text) → named name options ≡ Some o
    → Stands options places number left said → Stands options places number left (said ++ (name_of o, value) ∷ [])
stands_by options places number left said name o value e s = record {
  has = s.has;
  unsaid = still_unsaid left said (name_of o, value) (other_names options places number left name o e s.has) s.unsaid;
}

-- a word that stands alone takes the first place that is left
pub moves_on : (options : List Named) (places : List Text) (number : ℕ) (place : Text) (left : List Text)
    (said : Said) (word : Text) → Stands options places number (place ∷ left) said
    → Stands options places (number + 1) left (said ++ (place, word) ∷ [])
moves_on options places number place left said word s = record {
  has = s.has.1;
  unsaid = still_unsaid left said (place, word) s.has.0.others s.unsaid.1;
}
