-- Events that flush frames in flight, and what is left of these.
use Rattle.std.specs.Prelude.{◌≡◌, ℕ, ◌≤◌, Bool, true, false, List, take, Some, slice_get}
use Rattle.trips_isa.specs.declared.block.Block.{Block}
use Rattle.trips_isa.specs.declared.run.Stepped.{Stepped}
use Rattle.trips_isa.specs.declared.run.Stepped.TheVariants.{Trap}
use Rattle.commit_flush_spec.specs.Frames.{Frame}
use Rattle.commit_flush_spec.specs.Older.{committed}
use Rattle.commit_flush_spec.specs.Dropping.{left_by, store_left, exit_left, none_left}
use Rattle.commit_flush_spec.specs.InFlight.{in_flight}
use Rattle.commit_flush_spec.specs.Window.{Window, Event, Store, Exit, Flush, Commit}
use Rattle.commit_flush.specs.Places.{numbers_of}

-- whether a run has ended with a trap
abbrev pub is_trap : Stepped → Bool
is_trap (Trap c) = true
is_trap _ = false

-- the events that may flush frames, where the run then stands so: Flush, Store and Exit, and a Commit that traps
abbrev pub MayFlush : Event → Stepped → Type 0
MayFlush (Store n m) over = Unit {0}
MayFlush (Exit n) over = Unit {0}
MayFlush (Flush n) over = Unit {0}
MayFlush Commit over = is_trap over ≡ true
MayFlush _ over = ⊥

-- how many frames such an event leaves, the older ones of the first that it flushes: of a store those before the
-- first wrong load, of an exit all or those up to its own, of a flush those before its own, and of a trap none
abbrev pub left_of : List Block → Event → Window → ℕ
left_of blocks (Store n m) w = left_by (store_left m) (committed w.state) w.frames n
left_of blocks (Exit n) w = left_by (exit_left blocks) (committed w.state) w.frames n
left_of blocks (Flush n) w = left_by none_left (committed w.state) w.frames n
left_of blocks _ w = 0

-- of a flushed frame nothing is left: the window holds all that there is of a frame under its number, and no frame in
-- flight has the number of a flushed one, so that no token, place, request, write, load, store or exit of it stands
pub record LeavesNothing (left : ℕ) (old new : List Frame) : Type 0 where
  -- those that are left are the oldest, each under its number
  pub oldest : numbers_of new ≡ take left (numbers_of old)
  -- the frames of the ages from there on are in flight no more
  pub gone : (age : ℕ) (f : Frame) → left ≤ age → slice_get old age ≡ Some f → in_flight f.number new ≡ false
