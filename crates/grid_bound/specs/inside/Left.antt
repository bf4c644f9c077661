-- What is left: a number of cycles within which the block that commits next is committed, as a sum over all tasks,
-- also those that are never done, since the table that says which are is not in the grid.
use Rattle.std.specs.Prelude.{ℕ, zero, suc, ◌+◌, ◌-◌, ◌*◌, Bool, true, false, cond, ◌==◌, ◌&&◌, Option, Some, None}
use Rattle.operand_net.specs.declared.parcel.Stand.{Stand}
use Rattle.operand_net.specs.declared.parcel.Stand.TheVariants.{Nowhere, Away, Held}
use Rattle.grid_cycle_spec.specs.inside.Stations.{far}
use Rattle.grid_cycle_spec.specs.Costs.{fixed_cost, task_cost}
use Rattle.grid_bound.specs.inside.Course.{sum, tasks}
use Rattle.grid_bound.specs.inside.Lane.{any, Phase, Absent, Idle, Working, Asking, Standing, Sent, Front, Stage}
use Rattle.grid_bound.specs.inside.Lane.{Running}
use Rattle.grid_bound.specs.inside.Lane.{Fetching, Lane, unissued, ready, is_complete}

-- of a parcel: its links, its arrival, and at most three cycles in which it is held
abbrev pub parcel_left : Stand → ℕ
parcel_left Nowhere = 0
parcel_left (Away trip a) = far a trip.to + 4
parcel_left (Held trip h) = h

-- of a task, where its unit is busy for c more cycles: 24 for two tokens on their way, 1 for the answer, 13 for the
-- request's way, 25 for the unit
abbrev pub task_left : ℕ → Phase → ℕ
task_left c Absent = 0
task_left c Idle = 63
task_left c Working = c + 38
task_left c (Asking p) = parcel_left p + 25
task_left c Standing = 25
task_left c (Sent p q) = parcel_left p + parcel_left q

-- of a tile's unit, which is busy for c cycles, where u entries have not been issued: what it still needs for the
-- eldest one that is ready, and 24 for every other
abbrev pub wait_left : ℕ → Bool → ℕ → ℕ
wait_left c true u = c + 24 * (u - 1)
wait_left c false u = 24 * u

-- whether a task on tile t passes, and how many do
abbrev pub on_tile : Front → (ℕ → Bool) → ℕ → Bool
on_tile f p t = any f.course.room (λ x. p x && (f.course.task x).tile == t)

-- as the entries of a tile that its unit has still to issue
abbrev pub count_on : Front → (ℕ → Bool) → ℕ → ℕ
count_on f p t = sum f.course.room (λ x. cond (p x && (f.course.task x).tile == t) 1 0)

-- of a tile: of its unit and of its tasks
abbrev pub tile_left : (ℕ → ℕ) → Front → ℕ → ℕ
tile_left u f t = wait_left (u t) (on_tile f (ready f) t) (count_on f (unissued f) t)
    + sum f.course.room (λ x. cond ((f.course.task x).tile == t) (task_left (u t) (f.at x)) 0)

-- of the oldest frame: of its tiles, and its commit
abbrev pub work : (ℕ → ℕ) → Front → ℕ
work u f = 1 + sum 16 (tile_left u f)

-- the most that a frame of so many tasks has left: 87 for a task, 24 in its unit's turn and 63 for itself
abbrev pub most : ℕ → ℕ
most n = 1 + 87 * n

-- what is kept for a flush of the frame by a store of its own, which makes a careful frame: a fetch anew,
-- and its work
abbrev pub reserve : Bool → ℕ → ℕ
reserve true n = 0
reserve false n = 256 + 128 * n

-- of a fetch of eight cycles, and the one in which it begins
abbrev pub fetch_left : Option ℕ → ℕ
fetch_left None = 10
fetch_left (Some n) = suc n

-- of a stage that is not complete, the block having so many tasks
abbrev pub stage_left : ℕ → (ℕ → ℕ) → Stage → ℕ
stage_left n u (Running f) = work u f + reserve f.careful (tasks f.course)
stage_left n u (Fetching o s) = fetch_left o + most n + reserve s n

-- of the lane, where `sizes` tells how many tasks the n-th committed block has: a complete frame is committed in the
-- next cycle
abbrev pub left : (ℕ → ℕ) → Lane → ℕ
left sizes l = cond (is_complete l.stage) 1 (stage_left (sizes l.done) l.units l.stage)

-- what a block of so many tasks may take
abbrev pub price : ℕ → ℕ
price n = fixed_cost + task_cost * n

-- what the first n blocks may take
abbrev pub total : (ℕ → ℕ) → ℕ → ℕ
total sizes zero = 0
total sizes (suc n) = price (sizes n) + total sizes n
