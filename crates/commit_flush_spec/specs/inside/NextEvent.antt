-- The event that the window is given next where the oldest frame alone is worked on (docs/WINDOW.md, "Driving"). Own:
-- the order, which begins with what brings tokens nearer to an output.
use Rattle.std.specs.Prelude.{ℕ, zero, suc, ◌+◌, ◌*◌, Bool, true, false, cond, ◌&&◌, nat_le, List, [], ◌∷◌}
use Rattle.std.specs.Prelude.{length, Option, Some, None, is_none}
use Rattle.trips_isa.specs.declared.run.Stepped.{Stepped}
use Rattle.trips_isa.specs.declared.run.Stepped.TheVariants.{Went}
use Rattle.trips_isa.specs.Tables.{or_else}
use Rattle.trips_isa.specs.Machine.{State}
use Rattle.commit_flush_spec.specs.Frames.{Frame, at, numbers, token_places}
use Rattle.commit_flush_spec.specs.Older.{Older, committed}
use Rattle.commit_flush_spec.specs.Causes.{Happened, Done, NotNow}
use Rattle.commit_flush_spec.specs.Dataflow.{can_read, can_fire, can_deliver}
use Rattle.commit_flush_spec.specs.Memory.{can_load, can_store}
use Rattle.commit_flush_spec.specs.Ends.{can_exit, all_below, store_came, complete}
use Rattle.commit_flush_spec.specs.Window.{Window, Event}
use Rattle.commit_flush_spec.specs.Window as event

-- searching ------------------------------------------------------------------------------------

-- whether an event would be done
abbrev pub is_done : Happened → Bool
is_done Done = true
is_done (NotNow c) = false

-- the least of n numbers from k on for which a test holds
abbrev pub lowest : (ℕ → Bool) → ℕ → ℕ → Option ℕ
lowest test zero k = None
lowest test (suc n) k = cond (test k) (Some k) (lowest test n (suc k))

-- how many slots and reads a block has at most, and how many places a frame; not an `abbrev`, since a numeral
-- unrolls recursions in goals
unfoldable pub slots : ℕ
slots = 128

-- the reads of a block at most, all of which are searched
unfoldable pub reads : ℕ
reads = 32

-- the places of tokens on their way in a frame, all of which are searched
unfoldable pub places : ℕ
places = 320

-- the event of a number, where there is one
abbrev pub event_of : (ℕ → Event) → Option ℕ → Option Event
event_of make None = None
event_of make (Some k) = Some (make k)

-- steps of a frame -----------------------------------------------------------------------------

-- whether every store of a lower number has come, so that a load of number n sees all that it is to see
abbrev pub stores_came : Frame → ℕ → Bool
stores_came f n = all_below (store_came f) n

-- the token of the lowest place that can be delivered
abbrev pub next_token : Older → Frame → Option Event
next_token o f = event_of (λ p. event.Deliver (f.number * token_places + p))
    (lowest (λ p. is_done (can_deliver p o f)) places 0)

-- the lowest slot that is ready
abbrev pub next_firing : Older → Frame → Option Event
next_firing o f = event_of (λ s. event.Fire f.number s) (lowest (λ s. is_done (can_fire s o f)) slots 0)

-- the lowest read that can be answered
abbrev pub next_read : Older → Frame → Option Event
next_read o f = event_of (λ r. event.Read f.number r) (lowest (λ r. is_done (can_read r o f)) reads 0)

-- the store of the lowest number that waits and has not come
abbrev pub next_store : Older → Frame → Option Event
next_store o f = event_of (λ n. event.Store f.number n)
    (lowest (λ n. is_done (can_store n o f) && is_none (at f.stores n)) numbers 0)

-- the load of the lowest number that waits for no store
abbrev pub next_load : Older → Frame → Option Event
next_load o f = event_of (λ n. event.Load f.number n)
    (lowest (λ n. is_done (can_load n o f) && stores_came f n) numbers 0)

-- the branch that waits
abbrev pub next_exit : Older → Frame → Option Event
next_exit o f = cond (is_done (can_exit o f)) (Some (event.Exit f.number)) None

-- the first of these that there is
abbrev pub next_step : Older → Frame → Option Event
next_step o f = or_else (next_token o f) (or_else (next_firing o f) (or_else (next_read o f)
    (or_else (next_store o f) (or_else (next_load o f) (next_exit o f)))))

-- the window -----------------------------------------------------------------------------------

-- a sealed frame is committed, one with all its outputs is sealed, and any other takes a step
abbrev pub next_of_frame : Older → Frame → Option Event
next_of_frame o f = cond f.sealed (Some event.Commit)
    (cond (complete f) (Some (event.Seal f.number)) (next_step o f))

-- of the oldest frame, and without one the committed next block is fetched
abbrev pub next_in : List Frame → State → Option Event
next_in [] s = Some (event.Fetch s.next)
next_in (f ∷ fs) s = next_of_frame (committed s) f

-- none once the run has ended or its budget is spent
abbrev pub while_going : Stepped → Bool → Option Event → Option Event
while_going Went false e = e
while_going Went true e = None
while_going o spent e = None

-- the next event of the window
abbrev pub next_event : ℕ → Window → Option Event
next_event budget w = while_going w.over (nat_le budget (length w.state.trace)) (next_in w.frames w.state)
