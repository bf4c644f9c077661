-- What the table of places keeps.
use Rattle.std.specs.Prelude.{◌≡◌, ◌<◌, ◌≤◌, ◌+◌, ◌*◌, ◌==◌, ℕ, Bool, true, false, List, length, get_or}
use Rattle.operand_net.specs.declared.parcel.Stand.{Stand}
use Rattle.operand_net.specs.declared.parcel.Stand.TheVariants.{Nowhere, Away, Held}
use Rattle.operand_net.specs.inside.Marks.{marked}
use Rattle.operand_net.specs.inside.Places.{Inside}

-- whether there is a parcel
abbrev pub is_here : Stand → Bool
is_here Nowhere = false
is_here (Away trip at) = true
is_here (Held trip left) = true

-- whether it has come to its end and is held no longer
abbrev pub is_come : Stand → Bool
is_come Nowhere = false
is_come (Away trip at) = false
is_come (Held trip left) = left == 0

-- nodes are inside the mesh, and the marks say where there is a parcel, and where one has come
pub record IsStands (stands : List Stand) (busy arrived : List ℕ) : Type 0 where
  -- eight frames of 320 places
  pub size : length stands ≡ 2560
  -- each parcel is between nodes of the mesh
  pub inside : (q : ℕ) → Inside (get_or stands q Nowhere)
  -- a place is marked as busy exactly where its parcel travels or is held
  pub busy_is : (q : ℕ) → marked busy q ≡ is_here (get_or stands q Nowhere)
  -- and as arrived exactly where its parcel is to be delivered
  pub arrived_is : (q : ℕ) → marked arrived q ≡ is_come (get_or stands q Nowhere)

-- a place of a frame, from a place on, before which there is no parcel; at most 320
pub record IsNext (stands : List Stand) (frame from place : ℕ) : Type 0 where
  pub within : place ≤ 320
  pub onward : from ≤ place
  -- what is skipped has no parcel
  pub clear : (k : ℕ) → from ≤ k → k < place → get_or stands (320 * frame + k) Nowhere ≡ Nowhere
