-- What is noted of links in a tick of the mesh: the first places, and the first frames.
use Rattle.std.specs.Prelude.{ℕ, Bool, List, get_or}
use Rattle.operand_net.specs.declared.parcel.Stand.{Stand}
use Rattle.operand_net.specs.Places.{Places}
use Rattle.operand_net.specs.Tick.{frames_want, is_free}
use Rattle.grid_cycle_spec.specs.inside.Choosing.{places}
use Rattle.grid_events.specs.Mesh.{below, moved_notes}
use Rattle.grid_events.specs.Notes.{Note}

-- the parcels in the first n places of a frame take their links or wait for them, where `taken` tells the links that
-- elder frames want
abbrev pub row_moves : (ℕ → Bool) → ℕ → (ℕ → Stand) → ℕ → List Note
row_moves taken f row n = below (λ p. moved_notes (is_free taken row p (row p)) f p (row p)) n

-- so do those of the first n frames of a tick, from the eldest
abbrev pub frame_moves : List ℕ → Places → ℕ → List Note
frame_moves order m n =
    below (λ a. row_moves (frames_want a m order) (get_or order a 0) (m (get_or order a 0)) places) n
