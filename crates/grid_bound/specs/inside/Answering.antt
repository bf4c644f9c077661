-- Part (4) of a cycle as the oldest frame sees it: the data tiles, one after another.
use Rattle.std.specs.Prelude.{◌≡◌, ℕ, zero, suc, ◌<◌, ◌⊎◌, Bool, true, false, cond, ◌==◌, ◌&&◌, ◌||◌, Option, Some}
use Rattle.std.specs.Prelude.{None}
use Rattle.operand_net.specs.declared.parcel.Stand.TheVariants.{Nowhere}
use Rattle.grid_bound.specs.inside.Course.{Target, Task, Good}
use Rattle.grid_bound.specs.inside.Lane.{any, Phase, Sent, is_standing, Front, Stage, Running, Fetching, ready}
use Rattle.grid_bound.specs.inside.Lane.{answerable}
use Rattle.grid_bound.specs.inside.Sending.{station_of, sent_from}

-- whether a target is this spot
abbrev pub hits : Option Target → ℕ → Bool
hits None s = false
hits (Some t) s = t.spot == s

-- an answered request: a store's spots have their token at once, a load's tokens enter the mesh
abbrev pub settled : ℕ → Bool → Task → Phase
settled generation true t = Sent Nowhere Nowhere
settled generation false t = sent_from generation t.served_at t

-- whether an answered request gives a spot its token at once, as a store does with its number
abbrev pub resolves : Bool → Task → ℕ → Bool
resolves true t s = hits t.first s || hits t.second s
resolves false t s = false

-- the request of task x has been answered
abbrev pub answer_one : ℕ → Front → Front
answer_one x f = record f {
  at = λ y. cond (y == x) (settled f.generation (f.course.task x).stores (f.course.task x)) (f.at y);
  come = λ s. f.come s || resolves (f.course.task x).stores (f.course.task x) s;
}

-- a request that stands at data tile d and waits for nothing
abbrev pub at_tile : ℕ → Front → ℕ → Bool
at_tile d f x = answerable f x && station_of f x == d

-- whether tile d has such a request of the frame
abbrev pub has_at : ℕ → Front → Bool
has_at d f = any f.course.room (at_tile d f)

-- the spot of a target
abbrev pub spot_of : Option Target → Option ℕ
spot_of None = None
spot_of (Some t) = Some t.spot

-- the same frame by another course: what an open load will be answered, and so what is done, hangs on the stores that
-- have been resolved. What the block itself has is the same, and so is what is ready,
-- since tokens that have come stay
pub record Retold (f h : Front) : Type 0 where
  -- there are as many tasks, each in the same phase, and the same spots have their token
  pub room : h.course.room ≡ f.course.room
  pub at : (x : ℕ) → h.at x ≡ f.at x
  pub come : (s : ℕ) → h.come s ≡ f.come s
  pub careful : h.careful ≡ f.careful
  -- what the block states of a task stays
  pub declared : (x : ℕ) → (h.course.task x).declared ≡ (f.course.task x).declared
  pub kind : (x : ℕ) → (h.course.task x).kind ≡ (f.course.task x).kind
  pub tile : (x : ℕ) → (h.course.task x).tile ≡ (f.course.task x).tile
  -- it names the same spots, though an address that changes may bring a request to another data
  -- tile
  pub first : (x : ℕ) → spot_of (h.course.task x).first ≡ spot_of (f.course.task x).first
  pub second : (x : ℕ) → spot_of (h.course.task x).second ≡ spot_of (f.course.task x).second
  pub ready : (x : ℕ) → ready h x ≡ ready f x
  -- all outputs can come by the new course too
  pub good : Good h.course

-- a stage that a retold frame makes
pub record RunsOn (f : Front) (t : Stage) : Type 0 where
  -- the frame by the other course
  pub front : Front
  pub retold : Retold f front
  pub is_stage : t ≡ Running front

-- data tile d answers a request of the frame, be it one that need not have waited; a store may find a load wrong that
-- went early, in no careful frame, and then the frame is flushed and its block fetched anew
pub record Answered (d : ℕ) (f : Front) (t : Stage) : Type 0 where
  -- the task whose request is answered
  pub request : ℕ
  pub inside : request < f.course.room
  pub stands : is_standing (f.at request) ≡ true
  pub there : station_of f request ≡ d
  -- the frame goes on with the answer, or a store of its own has flushed it
  pub comes_to : RunsOn (answer_one request f) t ⊎ ((f.careful ≡ false) × (t ≡ Fetching None true))

-- it answers none only where none of the frame waits for nothing
abbrev pub TileAnswers : ℕ → Stage → Stage → Type 0
TileAnswers d (Running f) t = ((has_at d f ≡ false) × (t ≡ Running f)) ⊎ Answered d f t
TileAnswers d (Fetching o s) t = t ≡ Fetching o s

-- some steps, then one more
pub record Between (first last : Stage → Type 0) : Type 0 where
  -- the stage between them
  pub middle : Stage
  pub before : first middle
  pub after : last middle

-- the first n data tiles, one after another
abbrev pub TilesAnswer : ℕ → Stage → Stage → Type 0
TilesAnswer zero s t = t ≡ s
TilesAnswer (suc d) s t = Between (TilesAnswer d s) (λ m. TileAnswers d m t)
