-- Worked rows: what some notes count for.
use Rattle.std.proofs.Common.{◌≡◌, true, false, [], ◌∷◌, Some, None, refl}
use Rattle.trips_isa.specs.declared.op.Op.TheVariants.{Mov, Null, Add}
use Rattle.grid_events.specs.Counts.{tally}
use Rattle.grid_events.specs.Notes.{Violation, WrongExit, End, Predicts, Begins, Works, Fires, Loads, Stores}
use Rattle.grid_events.specs.Notes.{Flushes}
use Rattle.grid_events.specs.Notes.{OnMesh}
use Rattle.grid_events.specs.Notes.{Enters, Holds, Passes, Waits}
use Rattle.grid_tallies.specs.declared.statistic.Statistic.TheVariants as statistic
use Rattle.grid_tallies.specs.Statistics.{statistic_of, weigh}

-- operations by kind
pub mov : statistic_of (Fires 3 0 19 (Some Mov)) ≡ Some statistic.Movs
mov = refl

pub null : statistic_of (Fires 3 0 19 (Some Null)) ≡ Some statistic.Nulls
null = refl

pub add : statistic_of (Fires 3 0 19 (Some Add)) ≡ Some statistic.Useful
add = refl

-- flushed frames by cause
pub violation : weigh statistic.Violations (Flushes 2 Violation) ≡ 1
violation = refl

pub wrong_exit : weigh statistic.Violations (Flushes 2 WrongExit) ≡ 0
wrong_exit = refl

pub end : statistic_of (Flushes 2 End) ≡ Some statistic.Ends
end = refl

-- a fetch that begins is no prediction
pub begins : statistic_of (Begins 4 true) ≡ None
begins = refl

-- a parcel that enters, a link that one takes, a cycle that one waits, and one that is held at its end
pub parcel : statistic_of (OnMesh (Enters 0 5 6 7)) ≡ Some statistic.Parcels
parcel = refl

pub link : statistic_of (OnMesh (Passes 0 5 31)) ≡ Some statistic.Links
link = refl

pub wait : weigh statistic.Links (OnMesh (Waits 0 5 31)) ≡ 0
wait = refl

pub held : statistic_of (OnMesh (Holds 0 5)) ≡ None
held = refl

-- a cycle of the unit of tile 5 counts for this tile, and not for its neighbour
pub works : weigh (statistic.Station 5) (Works 5) ≡ 1
works = refl

pub neighbour : weigh (statistic.Station 6) (Works 5) ≡ 0
neighbour = refl

-- two stores, a null one too, among other notes
pub stores : tally (weigh statistic.Stores) (Loads 0 1 2 ∷ Stores 1 1 3 false ∷ Predicts 1 6 ∷ Stores 2 0 4 true ∷ [])
    ≡ 2
stores = refl
