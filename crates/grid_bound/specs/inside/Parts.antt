-- What parts (4), (5) and (6) of a cycle do to the oldest frame, as the lane sees it.
use Rattle.std.specs.Prelude.{◌≡◌, ℕ, ◌<◌, ◌≤◌, true, false, List, [], ◌∷◌, None}
use Rattle.trips_isa.specs.Rule.{Answer}
use Rattle.trips_isa.specs.Blocks.{Responses}
use Rattle.trips_isa.specs.inside.Blocks.{Solves}
use Rattle.operand_net.specs.declared.parcel.Stand.{Stand}
use Rattle.operand_net.specs.Tick.{is_free, ticked}
use Rattle.commit_flush_spec.specs.Frames.{Frame}
use Rattle.commit_flush_spec.specs.Older.{Older, committed}
use Rattle.commit_flush_spec.specs.inside.Invariant.{Agrees}
use Rattle.grid_cycle_spec.specs.Grid.{Grid}
use Rattle.grid_bound.specs.inside.Course.{Course}
use Rattle.grid_bound.specs.inside.Lane.{Stage, Running, Fetching}
use Rattle.grid_bound.specs.inside.Sending.{none_busy}
use Rattle.grid_bound.specs.inside.Answering.{TilesAnswer}
use Rattle.grid_bound.specs.inside.Turning.{less_one, finish_front, issue_front, units_after}
use Rattle.grid_bound.specs.inside.Blocks.{course_of}
use Rattle.grid_bound.specs.inside.Seen.{front_of, fetch_of}
use Rattle.grid_bound.specs.inside.Shows.{Shows}

-- a table that tells what the block of a frame gives: its reads and loads are answered as the frame was answered
pub record Tells (o : Older) (f : Frame) (t : ℕ → Answer) : Type 0 where
  -- answers to all reads and loads, also to those that are open
  pub seen : Responses
  -- what the frame was answered already is answered so
  pub agrees : Agrees o f seen
  -- the table gives each node's token by these answers
  pub solves : Solves f.code seen t

-- (4) the lane's stage behind data tiles: frame f is still the oldest, and some table tells what it gives now, or a
-- store has flushed it, and its block is fetched anew
pub data StageBehind {W : Type 0} (o : Older) (f : Frame) (h : Grid W) (s : Stage) : Type 0 where
  Goes : (x : Frame) (l : List Frame) (t : ℕ → Answer) → h.window.frames ≡ x ∷ l → x.number ≡ f.number
      → x.code ≡ f.code → x.sealed ≡ false → Tells o x t → s ≡ Running (front_of (course_of f.code t) h x)
      → StageBehind o f h s
  Flushed : h.window.frames ≡ [] → s ≡ Fetching None true → fetch_of h h.fetching ≡ Fetching None true
      → StageBehind o f h s

-- the data tiles answer the oldest frame of g as the lane's do
pub record Answering {W : Type 0} (f : Frame) (g h : Grid W) : Type 0 where
  -- what the block gives by all that has been answered before the part
  pub table : ℕ → Answer
  pub tells : Tells (committed g.window.state) f table
  -- a stage to which the lane's data tiles may come
  pub stage : Stage
  pub answers : TilesAnswer 4 (Running (front_of (course_of f.code table) g f)) stage
  -- which is what the grid has come to
  pub behind : StageBehind (committed g.window.state) f h stage

-- (5) the units turn for the oldest frame of g as the lane's do, and those that it uses are as busy
pub record Working {W : Type 0} (c : Course) (f : Frame) (g h : Grid W) : Type 0 where
  -- each task of the frame is where the lane's units have brought it
  pub shows : Shows c f h (issue_front (less_one g.units) (finish_front (less_one g.units) (front_of c g f)))
  -- a unit that the frame leaves free may serve another frame
  pub own : (n : ℕ) → n < 16 → 1 ≤ units_after (less_one g.units) (finish_front (less_one g.units) (front_of c g f)) n
      → h.units n ≡ units_after (less_one g.units) (finish_front (less_one g.units) (front_of c g f)) n

-- (6) a tick that no parcel of another frame hinders
pub record RowMoves (before after : ℕ → Stand) : Type 0 where
  -- what the weather draws for each place, if its parcel arrives
  pub hold : ℕ → ℕ
  pub holds : (p : ℕ) → hold p ≤ 3
  -- no elder frame takes a link, so that only lower places of this one do
  pub moves : (p : ℕ) → p < 320 → after p ≡ ticked (is_free none_busy before p (before p)) (hold p) (before p)
