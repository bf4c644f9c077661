-- The last of a list of notes, and those before it.
use Rattle.std.proofs.Common.{◌≡◌, List, [], ◌∷◌, ◌++◌, refl, ap}
use Rattle.hyper_build.specs.declared.emitting.Note.{Note}
use Rattle.hyper_build.specs.inside.Backward.{last_note, front_notes}

-- the last of some notes is the one put behind the others
pub last_behind : (xs : List Note) (x : Note) → last_note (xs ++ x ∷ []) ≡ x
last_behind [] x = refl
last_behind (y ∷ []) x = refl
last_behind (y ∷ z ∷ more) x = last_behind (z ∷ more) x

-- the notes before the last are those that it was put behind
pub front_before : (xs : List Note) (x : Note) → front_notes (xs ++ x ∷ []) ≡ xs
front_before [] x = refl
front_before (y ∷ []) x = refl
front_before (y ∷ z ∷ more) x = ap (λ l. y ∷ l) (front_before (z ∷ more) x)
