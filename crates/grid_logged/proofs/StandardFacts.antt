-- Worked rows: which entries of a run are logged.
use Rattle.std.proofs.Common.{◌≡◌, true, false, [], ◌∷◌, refl}
use Rattle.grid_events.specs.Notes as note
use Rattle.grid_log.specs.declared.event.Event.TheVariants as event
use Rattle.grid_log.specs.declared.event.Cause.TheVariants as cause
use Rattle.grid_logged.specs.Runs.{entries_between, is_between, run_entries}

-- both ends are among them
pub first : is_between 3 5 3 ≡ true
first = refl

pub last : is_between 3 5 5 ≡ true
last = refl

pub behind : is_between 3 5 6 ≡ false
behind = refl

-- of a run of three cycles the first is cycle 1, and its end is told of the third
pub all : run_entries ((note.Seals 1 ∷ []) ∷ [] ∷ (note.Fetches 1 7 ∷ note.Works 3 ∷ []) ∷ [])
    (note.Flushes 1 note.End ∷ [])
    ≡ record { cycle = 1; event = event.Fetches 1 7 } ∷ record { cycle = 3; event = event.Seals 1 }
    ∷ record { cycle = 3; event = event.Flushes 1 cause.End } ∷ []
all = refl

-- of its cycles 2 and 3 those are told that are of cycle 3, with the end
pub some : entries_between 2 3 (run_entries ((note.Seals 1 ∷ []) ∷ [] ∷ (note.Fetches 1 7 ∷ note.Works 3 ∷ []) ∷ [])
    (note.Flushes 1 note.End ∷ []))
    ≡ record { cycle = 3; event = event.Seals 1 } ∷ record { cycle = 3; event = event.Flushes 1 cause.End } ∷ []
some = refl

-- of its first two that of the first, without the end
pub others : entries_between 1 2 (run_entries ((note.Seals 1 ∷ []) ∷ [] ∷ (note.Fetches 1 7 ∷ note.Works 3 ∷ []) ∷ [])
    (note.Flushes 1 note.End ∷ [])) ≡ record { cycle = 1; event = event.Fetches 1 7 } ∷ []
others = refl
