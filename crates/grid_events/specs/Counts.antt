-- What is counted of notes: each statistic is a fold over them.
use Rattle.std.specs.Prelude.{ℕ, ◌+◌, ◌==◌, Bool, false, cond, List, [], ◌∷◌, Option, Some, None}
use Rattle.trips_isa.specs.declared.op.Op.{Op}
use Rattle.trips_isa.specs.declared.op.Op.TheVariants.{Mov, Null}
use Rattle.grid_cycle_spec.specs.Costs.{latency}
use Rattle.grid_events.specs.Notes.{Note, Why, Violation, WrongExit, End, MeshNote, Begins, Predicts, GivesUp}
use Rattle.grid_events.specs.Notes.{Fetches}
use Rattle.grid_events.specs.Notes.{Reads, Works, Fires, Loads, Stores, Leaves, Commits}
use Rattle.grid_events.specs.Notes.{Flushes, OnMesh, Enters, Passes, Waits, Holds}

-- the sum over some notes of what each counts for
abbrev pub tally : (Note → ℕ) → List Note → ℕ
tally one [] = 0
tally one (x ∷ xs) = one x + tally one xs

-- one where it is so
abbrev pub one_if : Bool → ℕ
one_if b = cond b 1 0

-- frames filled
abbrev pub fetched : Note → ℕ
fetched (Fetches n k) = 1
fetched _ = 0

-- frames committed
abbrev pub committed : Note → ℕ
committed (Commits n k) = 1
committed _ = 0

-- frames flushed, whatever the cause
abbrev pub flushed : Note → ℕ
flushed (Flushes n why) = 1
flushed _ = 0

-- the cause that a store comes behind a load that it should have fed
abbrev pub by_violation : Why → ℕ
by_violation Violation = 1
by_violation _ = 0

-- the cause that an exit named another block than was predicted
abbrev pub by_exit : Why → ℕ
by_exit WrongExit = 1
by_exit _ = 0

-- the cause that the run ended or trapped
abbrev pub by_end : Why → ℕ
by_end End = 1
by_end _ = 0

-- frames flushed, by what their cause counts for
abbrev pub flushed_for : (Why → ℕ) → Note → ℕ
flushed_for one (Flushes n why) = one why
flushed_for one _ = 0

-- fetches begun
abbrev pub begun : Note → ℕ
begun (Begins k careful) = 1
begun _ = 0

-- fetches given up
abbrev pub given_up : Note → ℕ
given_up (GivesUp k) = 1
given_up _ = 0

-- instructions fired
abbrev pub fired : Note → ℕ
fired (Fires tile n s op) = 1
fired _ = 0

-- instructions fired, by what their operation counts for
abbrev pub fired_by : (Option Op → ℕ) → Note → ℕ
fired_by one (Fires tile n s op) = one op
fired_by one _ = 0

-- a `mov`
abbrev pub is_mov : Option Op → ℕ
is_mov (Some Mov) = 1
is_mov _ = 0

-- a `null`
abbrev pub is_null_op : Option Op → ℕ
is_null_op (Some Null) = 1
is_null_op _ = 0

-- any other operation
abbrev pub is_useful : Option Op → ℕ
is_useful (Some Mov) = 0
is_useful (Some Null) = 0
is_useful _ = 1

-- loads answered
abbrev pub loads : Note → ℕ
loads (Loads tile n m) = 1
loads _ = 0

-- stores resolved, null ones among them
abbrev pub stores : Note → ℕ
stores (Stores tile n m null) = 1
stores _ = 0

-- null stores
abbrev pub null_stores : Note → ℕ
null_stores (Stores tile n m null) = one_if null
null_stores _ = 0

-- what is counted of the mesh
abbrev pub on_mesh : (MeshNote → ℕ) → Note → ℕ
on_mesh one (OnMesh m) = one m
on_mesh one _ = 0

-- parcels that enter
abbrev pub parcels : MeshNote → ℕ
parcels (Enters n p from to) = 1
parcels _ = 0

-- links that parcels pass
abbrev pub links : MeshNote → ℕ
links (Passes n p l) = 1
links _ = 0

-- cycles that parcels wait for a link
abbrev pub waits : MeshNote → ℕ
waits (Waits n p l) = 1
waits _ = 0

-- parcels that are held
abbrev pub holds : MeshNote → ℕ
holds (Holds n p) = 1
holds _ = 0

-- cycles in which the unit of this tile is busy
abbrev pub works_at : ℕ → Note → ℕ
works_at t (Works tile) = one_if (t == tile)
works_at t _ = 0

-- reads that this bank answers
abbrev pub reads_at : ℕ → Note → ℕ
reads_at b (Reads bank n r) = one_if (b == bank)
reads_at b _ = 0

-- loads and stores that this data tile answers
abbrev pub answers_at : ℕ → Note → ℕ
answers_at t (Loads tile n m) = one_if (t == tile)
answers_at t (Stores tile n m null) = one_if (t == tile)
answers_at t _ = 0

-- the time of an operation
abbrev pub time_of : Option Op → ℕ
time_of None = 0
time_of (Some op) = latency op

-- the time of what a tile issues
abbrev pub time_at : ℕ → Note → ℕ
time_at t (Fires tile n s op) = cond (t == tile) (time_of op) 0
time_at t _ = 0

-- blocks predicted
abbrev pub predicted : Note → ℕ
predicted (Predicts n k) = 1
predicted _ = 0
