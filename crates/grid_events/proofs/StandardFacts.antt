-- Worked rows of the definitions.
use Rattle.std.proofs.Common.{◌≡◌, true, false, [], ◌∷◌, Some, None, refl}
use Rattle.trips_isa.specs.declared.op.Op.TheVariants.{Add, Mul, Divs, Mov}
use Rattle.operand_net.specs.declared.parcel.Trip.{Trip}
use Rattle.operand_net.specs.declared.parcel.Stand.TheVariants.{Away, Held}
use Rattle.commit_flush_spec.specs.Window.{Fetch, Read, Seal, Commit, Deliver, Exit}
use Rattle.grid_events.specs.Notes.{Begins, Predicts, GivesUp, Fetches, Reads, Works, Fires, Delivers, Stores, Leaves}
use Rattle.grid_events.specs.Notes.{Seals, Commits, Traps, Flushes, OnMesh, Enters, Passes, Waits, Holds, WrongExit}
use Rattle.grid_events.specs.Notes.{events_of}
use Rattle.grid_events.specs.Mesh.{moved_notes, held_notes}
use Rattle.grid_events.specs.Plays.{fetched_behind}
use Rattle.grid_events.specs.Guesses.{right}
use Rattle.grid_events.specs.Counts.{tally, time_at, fired_by, is_useful, null_stores, on_mesh, links}

-- the events among the notes of some frame; what is flushed has none of its own
pub events : events_of (Begins 3 false ∷ Fetches 0 3 ∷ Reads 1 0 4 ∷ OnMesh (Enters 0 264 2 6) ∷ Seals 0 ∷ Commits 0
    3 ∷ [])
    ≡ Fetch 3 ∷ Read 0 4 ∷ Seal 0 ∷ Commit ∷ []
events = refl

pub arrivals : events_of (Delivers 2 7 ∷ Leaves 1 (Some 5) ∷ Flushes 2 WrongExit ∷ Traps 1 4 ∷ [])
    ≡ Deliver 647 ∷ Exit 1 ∷ Commit ∷ []
arrivals = refl

-- a prediction is right where the exit names what was predicted last, and is right once
pub right_once : right (Predicts 2 7 ∷ Leaves 2 (Some 7) ∷ Leaves 2 (Some 7) ∷ []) ≡ 1
right_once = refl

pub wrong : right (Predicts 2 7 ∷ Leaves 2 (Some 8) ∷ []) ≡ 0
wrong = refl

pub last_counts : right (Predicts 2 7 ∷ Predicts 2 8 ∷ Leaves 2 (Some 8) ∷ []) ≡ 1
last_counts = refl

pub of_another_frame : right (Predicts 2 7 ∷ Leaves 3 (Some 7) ∷ []) ≡ 0
of_another_frame = refl

-- and where the frame has not been filled anew in between
pub filled_anew : right (Predicts 2 7 ∷ Fetches 2 1 ∷ Leaves 2 (Some 7) ∷ []) ≡ 0
filled_anew = refl

-- the fetch unit
pub given_up : fetched_behind (Begins 3 false ∷ GivesUp 3 ∷ Begins 4 true ∷ []) None ≡ Some (4, true)
given_up = refl

pub filled : fetched_behind (Begins 3 false ∷ Fetches 0 3 ∷ []) None ≡ None
filled = refl

-- the time of what tile 5 issues
pub times : tally (time_at 5) (Fires 5 0 21 (Some Mul) ∷ Fires 6 0 22 (Some Divs) ∷ Works 5 ∷ Fires 5 0 37 (Some Add)
    ∷ [])
    ≡ 4
times = refl

pub useful : tally (fired_by is_useful) (Fires 5 0 21 (Some Mul) ∷ Fires 5 0 37 (Some Mov) ∷ []) ≡ 1
useful = refl

pub nulls : tally null_stores (Stores 1 0 2 true ∷ Stores 1 0 3 false ∷ []) ≡ 1
nulls = refl

-- a parcel from node 6 to node 8 takes the link from 6 to 7, or waits for it; at its end it takes none
abbrev pub along : Trip
along = record { generation = 0; from = 6; to = 8 }

pub passes : moved_notes true 0 12 (Away along 6) ≡ OnMesh (Passes 0 12 157) ∷ []
passes = refl

pub waits : moved_notes false 0 12 (Away along 6) ≡ OnMesh (Waits 0 12 157) ∷ []
waits = refl

pub ends : moved_notes true 0 12 (Away along 8) ≡ []
ends = refl

-- what is held for two cycles yet, and what has come
pub held : held_notes 0 12 (Held along 2) ≡ OnMesh (Holds 0 12) ∷ []
held = refl

pub come : held_notes 0 12 (Held along 0) ≡ []
come = refl

pub links_taken : tally (on_mesh links) (OnMesh (Passes 0 12 157) ∷ OnMesh (Waits 0 13 157) ∷ []) ≡ 1
links_taken = refl
