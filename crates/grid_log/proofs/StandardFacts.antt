-- Worked rows: the entries of some notes, and what a log holds of them.
use Rattle.std.proofs.Common.{◌≡◌, true, false, [], ◌∷◌, Some, None, refl}
use Rattle.trips_isa.specs.declared.op.Op.TheVariants.{Add}
use Rattle.grid_events.specs.Notes as note
use Rattle.grid_log.specs.declared.event.Event.TheVariants as event
use Rattle.grid_log.specs.declared.event.Cause.TheVariants as cause
use Rattle.grid_log.specs.Events.{entries_of, event_of, kept_of, note_of}
use Rattle.grid_log.specs.Runs.{cycles_entries}
use Rattle.grid_log.specs.inside.Telling.{begun_if, due_notes, ended_by, flushed_by, given_up, guesses}

-- no entry stands for a busy unit, nor for a link of the mesh
pub works : event_of (note.Works 3) ≡ None
works = refl

pub link : event_of (note.OnMesh (note.Passes 0 5 31)) ≡ None
link = refl

-- causes keep their words
pub flush : note_of (event.Flushes 2 cause.WrongExit) ≡ note.Flushes 2 note.WrongExit
flush = refl

-- a firing, a busy unit and a null store, in cycle 7
pub three : entries_of 7 (note.Fires 3 0 19 (Some Add) ∷ note.Works 3 ∷ note.Stores 1 0 2 true ∷ [])
    ≡ record { cycle = 7; event = event.Fires 3 0 19 (Some Add) }
    ∷ record { cycle = 7; event = event.Stores 1 0 2 true } ∷ []
three = refl

pub kept : kept_of (note.Works 3 ∷ note.Seals 1 ∷ note.OnMesh (note.Comes 1 5) ∷ note.Delivers 1 5 ∷ [])
    ≡ note.Seals 1 ∷ note.Delivers 1 5 ∷ []
kept = refl

-- two cycles behind four: each entry has the number of its cycle
pub cycles : cycles_entries 4 ((note.Seals 1 ∷ []) ∷ (note.Delivers 1 5 ∷ []) ∷ [])
    ≡ record { cycle = 5; event = event.Delivers 1 5 } ∷ record { cycle = 6; event = event.Seals 1 } ∷ []
cycles = refl

-- each flushed frame has a note of its own
pub flushes : flushed_by note.Violation (4 ∷ 7 ∷ []) ≡ note.Flushes 4 note.Violation
    ∷ note.Flushes 7 note.Violation ∷ []
flushes = refl

-- a fetch that is there behind is not given up
pub goes_on : given_up (Some (9, true)) (Some (9, true)) ≡ []
goes_on = refl

pub gives_up : given_up (Some (9, true)) None ≡ note.GivesUp 9 ∷ []
gives_up = refl

-- a fetch that is due fills the lowest empty frame, or is given up
pub fills : due_notes (Some 9) true (Some 2) ≡ note.Fetches 2 9 ∷ []
fills = refl

-- behind an open frame a block is predicted, but not where a flushed block stands
pub predicts : begun_if true (guesses None (Some 5)) (Some (9, false)) ≡ note.Predicts 5 9 ∷ note.Begins 9 false ∷ []
predicts = refl

pub stands : begun_if true (guesses (Some 9) (Some 5)) (Some (9, true)) ≡ note.Begins 9 true ∷ []
stands = refl
