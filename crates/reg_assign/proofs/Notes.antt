-- The last of a list, and the items before it.
use Rattle.std.proofs.Common.{◌≡◌, ℕ, List, [], ◌∷◌, ◌++◌, refl, ap}
use Rattle.reg_assign.specs.inside.Pass.{last_of, front_of}

-- the last of a list is the item put behind the others
pub last_behind : (xs : List ℕ) (x : ℕ) → last_of (xs ++ x ∷ []) ≡ x
last_behind [] x = refl
last_behind (y ∷ []) x = refl
last_behind (y ∷ z ∷ more) x = last_behind (z ∷ more) x

-- the items before the last are those that it was put behind
pub front_before : (xs : List ℕ) (x : ℕ) → front_of (xs ++ x ∷ []) ≡ xs
front_before [] x = refl
front_before (y ∷ []) x = refl
front_before (y ∷ z ∷ more) x = ap (λ l. y ∷ l) (front_before (z ∷ more) x)
