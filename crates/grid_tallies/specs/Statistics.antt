-- What is counted of a run: one number for each statistic, which grows by what is noted.
use Rattle.std.specs.Prelude.{◌≡◌, ◌<◌, ℕ, ◌+◌, ◌^◌, ◌==◌, Bool, false, cond, List, Option, Some, None}
use Rattle.std.specs.Prelude.{drop, slice_index_or}
use Rattle.trips_isa.specs.declared.op.Op.{Op}
use Rattle.trips_isa.specs.declared.op.Op.TheVariants.{Mov, Null}
use Rattle.grid_events.specs.Notes.{Note, Why, Violation, WrongExit, End, Predicts, Works, Fires, Loads, Stores}
use Rattle.grid_events.specs.Notes.{Flushes, MeshNote, OnMesh, Enters, Passes, Waits}
use Rattle.grid_events.specs.Counts.{tally}
use Rattle.grid_tallies.specs.declared.statistic.Statistic.{Statistic}
use Rattle.grid_tallies.specs.declared.statistic.Statistic.TheVariants as statistic
use Rattle.grid_tallies.specs.declared.tallies.Tallies.{Tallies}

-- where the number of a statistic stands
abbrev pub place : Statistic → ℕ
place statistic.Movs = 0
place statistic.Nulls = 1
place statistic.Useful = 2
place statistic.Loads = 3
place statistic.Stores = 4
place statistic.Violations = 5
place statistic.WrongExits = 6
place statistic.Ends = 7
place statistic.Predictions = 8
place statistic.Parcels = 9
place statistic.Links = 10
place statistic.Waits = 11
place (statistic.Station tile) = 12 + tile

-- what an operation that fires counts for
abbrev pub kind_of : Option Op → Statistic
kind_of (Some Mov) = statistic.Movs
kind_of (Some Null) = statistic.Nulls
kind_of _ = statistic.Useful

-- what a flushed frame counts for, by the cause
abbrev pub cause_of : Why → Statistic
cause_of Violation = statistic.Violations
cause_of WrongExit = statistic.WrongExits
cause_of End = statistic.Ends

-- what a note of the mesh counts for: a parcel enters, takes a link, or waits for one
abbrev pub traffic_of : MeshNote → Option Statistic
traffic_of (Enters n p from to) = Some statistic.Parcels
traffic_of (Passes n p l) = Some statistic.Links
traffic_of (Waits n p l) = Some statistic.Waits
traffic_of _ = None

-- the statistic for which a note counts, if it counts for any
abbrev pub statistic_of : Note → Option Statistic
statistic_of (Works tile) = Some (statistic.Station tile)
statistic_of (Fires tile n s op) = Some (kind_of op)
statistic_of (Loads tile n m) = Some statistic.Loads
statistic_of (Stores tile n m null) = Some statistic.Stores
statistic_of (Flushes n why) = Some (cause_of why)
statistic_of (Predicts n k) = Some statistic.Predictions
statistic_of (OnMesh m) = traffic_of m
statistic_of _ = None

-- whether a statistic is this one
abbrev pub is_one : Statistic → Option Statistic → Bool
is_one s None = false
is_one s (Some t) = place s == place t

-- what a note counts for in a statistic: one, or nothing
abbrev pub weigh : Statistic → Note → ℕ
weigh s x = cond (is_one s (statistic_of x)) 1 0

-- the number of a statistic
abbrev pub number_of : Statistic → Tallies → ℕ
number_of s t = slice_index_or t.numbers (place s) 0

-- in how many cycles the unit of each tile was busy, from tile 0
abbrev pub stations_of : Tallies → List ℕ
stations_of t = drop 12 t.numbers

-- the second tallies are the first after these notes more, while the numbers have room in 64 bits
abbrev pub Heard : Tallies → List Note → Tallies → Type 0
Heard a es b = (s : Statistic) → number_of s a + tally (weigh s) es < 2 ^ 64
    → number_of s b ≡ number_of s a + tally (weigh s) es

-- the numbers of some tallies are those of these notes, while they have room in 64 bits
abbrev pub AreOf : List Note → Tallies → Type 0
AreOf es t = (s : Statistic) → tally (weigh s) es < 2 ^ 64 → number_of s t ≡ tally (weigh s) es
