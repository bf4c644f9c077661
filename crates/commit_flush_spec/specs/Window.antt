-- The events of the window, in any order: what each is answered, and what it does.
use Rattle.std.specs.Prelude.{ℕ, ◌/◌, ◌%◌, List, [], ◌∷◌, slice_get}
use Rattle.trips_isa.specs.declared.block.Block.{Block}
use Rattle.trips_isa.specs.declared.run.Stepped.{Stepped}
use Rattle.trips_isa.specs.declared.run.Stepped.TheVariants.{Went}
use Rattle.commit_flush_spec.specs.Frames.{Frame, token_places}
use Rattle.commit_flush_spec.specs.Older.{Older, committed}
use Rattle.commit_flush_spec.specs.Causes.{Over, NoFrame, NoToken, Happened, Done, NotNow}
use Rattle.commit_flush_spec.specs.Dataflow.{can_read, read, can_fire, fire, can_deliver, deliver}
use Rattle.commit_flush_spec.specs.Memory.{can_load, load, can_store, store}
use Rattle.commit_flush_spec.specs.Ends.{can_exit, exit, can_seal, seal}
pub use Rattle.commit_flush_spec.specs.InFlight.{Window, opened, on_frame, change, alone, flush}
pub use Rattle.commit_flush_spec.specs.InFlight.{in_flight, lowest_empty, is_worn, can_fetch, fetched}
pub use Rattle.commit_flush_spec.specs.InFlight.{is_sealed, can_commit, commit}

-- what may happen in a window; numbers may be any
pub data Event : Type 0 where
  -- block `block` of the image is filled into the lowest empty frame
  Fetch : (block : ℕ) → Event
  -- a read is answered with its register's word
  Read : (frame read : ℕ) → Event
  -- what a slot holds gives its token, or waits as a load, a store or a branch
  Fire : (frame slot : ℕ) → Event
  -- the token in place `token` mod 320 of frame `token` / 320 goes to its place of the block
  Deliver : (token : ℕ) → Event
  -- the load that waits with a number is answered with the bytes that it sees
  Load : (frame number : ℕ) → Event
  -- the store that waits with a number is resolved, and flushes what took other bytes too early
  Store : (frame number : ℕ) → Event
  -- the branch that waits makes the successor known, and flushes younger frames of another block
  Exit : (frame : ℕ) → Event
  -- a frame that has all its outputs is closed
  Seal : (frame : ℕ) → Event
  -- a frame is dropped with all younger ones
  Flush : (frame : ℕ) → Event
  -- the oldest frame, which is sealed, changes the committed state, or ends the run with a trap
  Commit : Event

-- events ---------------------------------------------------------------------------------------

-- what an event is answered while the run goes on
abbrev pub can_now : List Block → ℕ → Event → Window → Happened
can_now blocks budget (Fetch k) w = can_fetch blocks k w
can_now blocks budget (Read n r) w = on_frame (NotNow NoFrame) (can_read r) (committed w.state) w.frames n
can_now blocks budget (Fire n s) w = on_frame (NotNow NoFrame) (can_fire s) (committed w.state) w.frames n
can_now blocks budget (Deliver t) w =
    on_frame (NotNow NoToken) (can_deliver (t % token_places)) (committed w.state) w.frames (t / token_places)
can_now blocks budget (Load n m) w = on_frame (NotNow NoFrame) (can_load m) (committed w.state) w.frames n
can_now blocks budget (Store n m) w = on_frame (NotNow NoFrame) (can_store m) (committed w.state) w.frames n
can_now blocks budget (Exit n) w = on_frame (NotNow NoFrame) can_exit (committed w.state) w.frames n
can_now blocks budget (Seal n) w = on_frame (NotNow NoFrame) can_seal (committed w.state) w.frames n
can_now blocks budget (Flush n) w = on_frame (NotNow NoFrame) (λ o f. Done) (committed w.state) w.frames n
can_now blocks budget Commit w = can_commit budget w

-- nothing happens once the run has ended
abbrev pub unless_over : Stepped → Happened → Happened
unless_over Went h = h
unless_over _ h = NotNow Over

-- what an event of the window is answered: the first cause of its row, or Done
abbrev pub can : List Block → ℕ → Event → Window → Happened
can blocks budget e w = unless_over w.over (can_now blocks budget e w)

-- the frames after an event that changes frames alone
abbrev pub frames_after : List Block → Event → Older → List Frame → List Frame
frames_after blocks (Read n r) o fs = change (alone (read r)) o fs n
frames_after blocks (Fire n s) o fs = change (alone (fire s)) o fs n
frames_after blocks (Deliver t) o fs = change (alone (deliver (t % token_places))) o fs (t / token_places)
frames_after blocks (Load n m) o fs = change (alone (load m)) o fs n
frames_after blocks (Store n m) o fs = change (store m) o fs n
frames_after blocks (Exit n) o fs = change (exit blocks) o fs n
frames_after blocks (Seal n) o fs = change (alone seal) o fs n
frames_after blocks (Flush n) o fs = change flush o fs n
frames_after blocks _ o fs = fs

-- what an event does where it is Done
abbrev pub done : List Block → Event → Window → Window
done blocks (Fetch k) w = fetched k (lowest_empty 8 0 w.frames) (slice_get blocks k) w
done blocks Commit w = commit w.frames w
done blocks e w = record w { frames = frames_after blocks e (committed w.state) w.frames }

-- the one window where an event is Done, else the other
abbrev pub if_done : Happened → Window → Window → Window
if_done Done new old = new
if_done (NotNow c) new old = old

-- the window after an event: unchanged where it is not Done
abbrev pub happens : List Block → ℕ → Event → Window → Window
happens blocks budget e w = if_done (can blocks budget e w) (done blocks e w) w

-- the window after some events, one after another
abbrev pub plays : List Block → ℕ → List Event → Window → Window
plays blocks budget [] w = w
plays blocks budget (e ∷ es) w = plays blocks budget es (happens blocks budget e w)
