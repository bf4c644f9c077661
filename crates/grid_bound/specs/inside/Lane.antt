-- The lane: what the block that commits next sees of the grid, its frame or the fetch of it.
use Rattle.std.specs.Prelude.{ℕ, zero, suc, Bool, true, false, ◌&&◌, ◌||◌, not, List, [], ◌∷◌, Option}
use Rattle.operand_net.specs.declared.parcel.Stand.{Stand}
use Rattle.operand_net.specs.declared.parcel.Stand.TheVariants.{Nowhere}
use Rattle.grid_bound.specs.inside.Course.{Course, is_reading}

-- whether one of the numbers below n passes
abbrev pub any : ℕ → (ℕ → Bool) → Bool
any zero p = false
any (suc n) p = p n || any n p

-- how far a task is: there is none; it has not begun; its tile's unit holds it; its request travels; its request
-- stands at its data tile; its tokens travel, or have come
pub data Phase : Type 0 where
  Absent : Phase
  Idle : Phase
  Working : Phase
  Asking : (p : Stand) → Phase
  Standing : Phase
  Sent : (p q : Stand) → Phase

-- whether a task is still to begin: a read is not answered, or an entry is not issued
abbrev pub is_idle : Phase → Bool
is_idle Absent = false
is_idle Idle = true
is_idle Working = false
is_idle (Asking p) = false
is_idle Standing = false
is_idle (Sent p q) = false

-- whether its request has come to its data tile and is not answered
abbrev pub is_standing : Phase → Bool
is_standing Absent = false
is_standing Idle = false
is_standing Working = false
is_standing (Asking p) = false
is_standing Standing = true
is_standing (Sent p q) = false

-- whether there is a task at all
abbrev pub is_there : Phase → Bool
is_there Absent = false
is_there Idle = true
is_there Working = true
is_there (Asking p) = true
is_there Standing = true
is_there (Sent p q) = true

-- the parcel of a task's first place, which its request takes too, and of its second
abbrev pub first_parcel : Phase → Stand
first_parcel Absent = Nowhere
first_parcel Idle = Nowhere
first_parcel Working = Nowhere
first_parcel (Asking p) = p
first_parcel Standing = Nowhere
first_parcel (Sent p q) = p

-- a task has one only once it has sent its tokens
abbrev pub second_parcel : Phase → Stand
second_parcel Absent = Nowhere
second_parcel Idle = Nowhere
second_parcel Working = Nowhere
second_parcel (Asking p) = Nowhere
second_parcel Standing = Nowhere
second_parcel (Sent p q) = q

-- the oldest frame
pub record Front : Type 0 where
  -- its block, by what its reads and loads are answered
  pub course : Course
  -- the generation that its parcels carry
  pub generation : ℕ
  -- how far each task is, by its number
  pub at : ℕ → Phase
  -- the spots that have their token
  pub come : ℕ → Bool
  -- whether all its loads wait for older stores, so that no store of its own flushes it
  pub careful : Bool

-- the block that commits next runs, or is fetched, with the cycles that this still takes beyond the next, where it is
-- under way; whether that makes a careful frame
pub data Stage : Type 0 where
  Running : (f : Front) → Stage
  Fetching : (left : Option ℕ) (careful : Bool) → Stage

-- the lane: the stage, the cycles for which each tile's unit is busy, and how many blocks have been committed
pub record Lane : Type 0 where
  -- the block that commits next
  pub stage : Stage
  -- how long the unit of each tile is busy, whichever frame has it
  pub units : ℕ → ℕ
  -- blocks committed so far, so that the next one has this number
  pub done : ℕ

-- what may be done ------------------------------------------------------------------------------

-- whether all of some spots have their token
abbrev pub all_come : (ℕ → Bool) → List ℕ → Bool
all_come come [] = true
all_come come (q ∷ qs) = come q && all_come come qs

-- a read that is not answered, and an instruction that has not been issued
abbrev pub unread : Front → ℕ → Bool
unread f x = is_idle (f.at x) && is_reading (f.course.task x).kind

-- an entry of its tile, be it ready or not
abbrev pub unissued : Front → ℕ → Bool
unissued f x = is_idle (f.at x) && not (is_reading (f.course.task x).kind)

-- an entry that may be issued
abbrev pub ready : Front → ℕ → Bool
ready f x = unissued f x && ((f.course.task x).met && all_come f.come (f.course.task x).needs)

-- a request whose older stores are all resolved
abbrev pub answerable : Front → ℕ → Bool
answerable f x = is_standing (f.at x) && all_come f.come (f.course.task x).waits

-- whether all outputs have come, so that the frame is sealed and committed at once
abbrev pub complete : Front → Bool
complete f = all_come f.come f.course.outputs

-- only a frame has outputs; a fetch is never complete
abbrev pub is_complete : Stage → Bool
is_complete (Running f) = complete f
is_complete (Fetching o s) = false
