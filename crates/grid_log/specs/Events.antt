-- Which events of a log stand for which notes of a cycle.
use Rattle.std.specs.Prelude.{ℕ, cond, is_some, List, [], ◌∷◌, Option, Some, None}
use Rattle.grid_events.specs.Notes.{Note, Why}
use Rattle.grid_events.specs.Notes as note
use Rattle.grid_log.specs.declared.event.Event.{Event}
use Rattle.grid_log.specs.declared.event.Event.TheVariants as event
use Rattle.grid_log.specs.declared.event.Cause.{Cause}
use Rattle.grid_log.specs.declared.log.Entry.{Entry}
use Rattle.grid_log.specs.declared.event.Cause.TheVariants as cause

-- why a frame is flushed, in the words of the notes
abbrev pub why_of : Cause → Why
why_of cause.Violation = note.Violation
why_of cause.WrongExit = note.WrongExit
why_of cause.End = note.End

-- the same in the words of the log
abbrev pub cause_of : Why → Cause
cause_of note.Violation = cause.Violation
cause_of note.WrongExit = cause.WrongExit
cause_of note.End = cause.End

-- the note for which an event stands
abbrev pub note_of : Event → Note
note_of (event.Begins k careful) = note.Begins k careful
note_of (event.Predicts n k) = note.Predicts n k
note_of (event.GivesUp k) = note.GivesUp k
note_of (event.Fetches n k) = note.Fetches n k
note_of (event.Reads bank n r) = note.Reads bank n r
note_of (event.Fires tile n s op) = note.Fires tile n s op
note_of (event.Delivers n p) = note.Delivers n p
note_of (event.Loads tile n m) = note.Loads tile n m
note_of (event.Stores tile n m null) = note.Stores tile n m null
note_of (event.Leaves n k) = note.Leaves n k
note_of (event.Seals n) = note.Seals n
note_of (event.Commits n k) = note.Commits n k
note_of (event.Traps n k) = note.Traps n k
note_of (event.Flushes n why) = note.Flushes n (why_of why)

-- the event that stands for a note: none for a busy unit and for what is noted of the mesh
abbrev pub event_of : Note → Option Event
event_of (note.Begins k careful) = Some (event.Begins k careful)
event_of (note.Predicts n k) = Some (event.Predicts n k)
event_of (note.GivesUp k) = Some (event.GivesUp k)
event_of (note.Fetches n k) = Some (event.Fetches n k)
event_of (note.Reads bank n r) = Some (event.Reads bank n r)
event_of (note.Works tile) = None
event_of (note.Fires tile n s op) = Some (event.Fires tile n s op)
event_of (note.Delivers n p) = Some (event.Delivers n p)
event_of (note.Loads tile n m) = Some (event.Loads tile n m)
event_of (note.Stores tile n m null) = Some (event.Stores tile n m null)
event_of (note.Leaves n k) = Some (event.Leaves n k)
event_of (note.Seals n) = Some (event.Seals n)
event_of (note.Commits n k) = Some (event.Commits n k)
event_of (note.Traps n k) = Some (event.Traps n k)
event_of (note.Flushes n why) = Some (event.Flushes n (cause_of why))
event_of (note.OnMesh m) = None

-- an event of a cycle, where there is one, before other entries
abbrev pub first_of : ℕ → Option Event → List Entry → List Entry
first_of c None xs = xs
first_of c (Some e) xs = record { cycle = c; event = e } ∷ xs

-- the entries that stand for some notes of a cycle, in their order
abbrev pub entries_of : ℕ → List Note → List Entry
entries_of c [] = []
entries_of c (x ∷ xs) = first_of c (event_of x) (entries_of c xs)

-- the notes among some for which an event stands
abbrev pub kept_of : List Note → List Note
kept_of [] = []
kept_of (x ∷ xs) = cond (is_some (event_of x)) (x ∷ kept_of xs) (kept_of xs)

-- the notes for which some entries stand
abbrev pub notes_of : List Entry → List Note
notes_of [] = []
notes_of (x ∷ xs) = note_of x.event ∷ notes_of xs
