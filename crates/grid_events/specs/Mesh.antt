-- The notes of a tick of the mesh: links that are taken and waited for are told by where the parcels stood before,
-- and holds by where they stand behind.
use Rattle.std.specs.Prelude.{ℕ, zero, suc, ◌==◌, Bool, cond, List, [], ◌∷◌, ◌++◌, length, get_or}
use Rattle.operand_net.specs.declared.parcel.Stand.{Stand}
use Rattle.operand_net.specs.declared.parcel.Stand.TheVariants.{Nowhere, Away, Held}
use Rattle.operand_net.specs.Places.{Places}
use Rattle.operand_net.specs.Tick.{link_of, frames_want, is_free}
use Rattle.grid_cycle_spec.specs.inside.Choosing.{places}
use Rattle.grid_events.specs.Notes.{Note, OnMesh, Passes, Waits, Holds}

-- the notes of the first n of some things, in ascending order
abbrev pub below : (ℕ → List Note) → ℕ → List Note
below notes zero = []
below notes (suc n) = below notes n ++ notes n

-- a parcel that is not at its end takes its link, where that is free, or waits for it
abbrev pub moved_notes : Bool → ℕ → ℕ → Stand → List Note
moved_notes free n p Nowhere = []
moved_notes free n p (Away trip a) = cond (a == trip.to) []
    (cond free (OnMesh (Passes n p (link_of a trip.to)) ∷ []) (OnMesh (Waits n p (link_of a trip.to)) ∷ []))
moved_notes free n p (Held trip h) = []

-- a parcel that has not come behind the tick, though it is at its end, is held
abbrev pub held_notes : ℕ → ℕ → Stand → List Note
held_notes n p Nowhere = []
held_notes n p (Away trip a) = []
held_notes n p (Held trip zero) = []
held_notes n p (Held trip (suc h)) = OnMesh (Holds n p) ∷ []

-- the places of a frame, where `taken` tells the links that elder frames want
abbrev pub row_notes : (ℕ → Bool) → ℕ → (ℕ → Stand) → (ℕ → Stand) → List Note
row_notes taken n before after =
    below (λ p. moved_notes (is_free taken before p (before p)) n p (before p) ++ held_notes n p (after p)) places

-- the frames of a tick, from the eldest
abbrev pub tick_notes : List ℕ → Places → Places → List Note
tick_notes order before after = below (λ a. row_notes (frames_want a before order) (get_or order a 0)
    (before (get_or order a 0)) (after (get_or order a 0))) (length order)
