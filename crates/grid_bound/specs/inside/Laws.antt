-- The lane's rule, and the words of its laws.
use Rattle.std.specs.Prelude.{◌≡◌, ℕ, zero, suc, ◌<◌, ◌≤◌, ◌⊎◌, Bool, true, Option, Some, None}
use Rattle.operand_net.specs.declared.parcel.Stand.{Stand}
use Rattle.operand_net.specs.declared.parcel.Stand.TheVariants.{Nowhere, Away, Held}
use Rattle.grid_bound.specs.inside.Course.{Target, Task, tasks, Good}
use Rattle.grid_bound.specs.inside.Lane.{Phase, Absent, Idle, Working, Asking, Standing, Sent, is_there, Front, Stage}
use Rattle.grid_bound.specs.inside.Lane.{Running, Fetching, Lane, is_complete}
use Rattle.grid_bound.specs.inside.Serving.{Served}
use Rattle.grid_bound.specs.inside.Left.{left}

-- the rule --------------------------------------------------------------------------------------

-- a parcel is on the mesh, and is held for 1 to 3 cycles
abbrev pub Bounded : Stand → Type 0
Bounded Nowhere = Unit {0}
Bounded (Away trip a) = (a < 25) × (trip.to < 25)
Bounded (Held trip h) = (1 ≤ h) × (h ≤ 3)

-- a target has its token
abbrev pub Has : (ℕ → Bool) → Option Target → Type 0
Has come None = Unit {0}
Has come (Some t) = come t.spot ≡ true

-- a token that is nowhere has been delivered
abbrev pub Landed : (ℕ → Bool) → Stand → Option Target → Type 0
Landed come Nowhere t = Has come t
Landed come (Away trip a) t = Bounded (Away trip a)
Landed come (Held trip h) t = Bounded (Held trip h)

-- a request travels
abbrev pub OnItsWay : Stand → Type 0
OnItsWay Nowhere = ⊥
OnItsWay (Away trip a) = Bounded (Away trip a)
OnItsWay (Held trip h) = Bounded (Held trip h)

-- the unit of a task that is in work is busy, and no token of a task that has sent them is lost
abbrev pub FineAt : (ℕ → ℕ) → (ℕ → Bool) → Task → Phase → Type 0
FineAt u come t Absent = Unit {0}
FineAt u come t Idle = Unit {0}
FineAt u come t Working = 1 ≤ u t.tile
FineAt u come t (Asking p) = OnItsWay p
FineAt u come t Standing = Unit {0}
FineAt u come t (Sent p q) = Landed come p t.first × Landed come q t.second

-- so of each task of the frame, and exactly the declared ones are there
abbrev pub Fine : (ℕ → ℕ) → Front → Type 0
Fine u f = (x : ℕ) → x < f.course.room → FineAt u f.come (f.course.task x) (f.at x)

-- a number has a task exactly where the block has a slot or a read for it
abbrev pub Placed : Front → Type 0
Placed f = (x : ℕ) → x < f.course.room → is_there (f.at x) ≡ (f.course.task x).declared

-- at most this many, if any
abbrev pub AtMost : Option ℕ → ℕ → Type 0
AtMost None m = Unit {0}
AtMost (Some c) m = c ≤ m

-- the rule of a frame of a block of n tasks
pub record FrontRule (n : ℕ) (u : ℕ → ℕ) (f : Front) : Type 0 where
  -- its block has n tasks, from which its price is told
  pub size : tasks f.course ≡ n
  -- all its outputs can come
  pub good : Good f.course
  -- the declared tasks are there, and no other
  pub placed : Placed f
  -- no token and no request of it is lost
  pub fine : Fine u f

-- the rule of a stage that is not complete
abbrev pub StageRule : ℕ → (ℕ → ℕ) → Stage → Type 0
StageRule n u (Running f) = FrontRule n u f
StageRule n u (Fetching o s) = AtMost o 7

-- the rule of a lane: units are busy for at most 24 cycles, and the stage is complete or has its rule
pub record LaneRule (sizes : ℕ → ℕ) (l : Lane) : Type 0 where
  -- no operation takes longer
  pub units : (t : ℕ) → l.units t ≤ 24
  -- a complete stage has only its commit before it, and needs no rule
  pub stage : (is_complete l.stage ≡ true) ⊎ StageRule (sizes l.done) l.units l.stage

-- the laws' words -------------------------------------------------------------------------------

-- a cycle commits the block, or keeps the rule and lowers what is left
abbrev pub Falls : (ℕ → ℕ) → Lane → Lane → Type 0
Falls sizes l m = (m.done ≡ suc l.done)
    ⊎ ((m.done ≡ l.done) × LaneRule sizes m × (left sizes m < left sizes l))

-- some cycles, then one more after which the lane has its rule
pub record Goes (first : Lane → Type 0) (sizes : ℕ → ℕ) (m : Lane) : Type 0 where
  -- the lane between them
  pub between : Lane
  pub before : first between
  -- it serves the oldest frame, which may be its commit
  pub served : Served sizes between m
  -- the rule holds behind the cycle, also for the block that comes next
  pub rule : LaneRule sizes m

-- n cycles that serve the oldest frame, one after another
abbrev pub AfterServed : (ℕ → ℕ) → ℕ → Lane → Lane → Type 0
AfterServed sizes zero l m = m ≡ l
AfterServed sizes (suc n) l m = Goes (AfterServed sizes n l) sizes m
