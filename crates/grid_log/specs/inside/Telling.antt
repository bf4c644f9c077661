-- What is told of the notes of a cycle, of what is seen of the grid before and behind.
use Rattle.std.specs.Prelude.{ℕ, ◌/◌, Bool, true, false, cond, nat_lt, List, [], ◌∷◌, ◌++◌, Option, Some, None, is_none}
use Rattle.trips_isa.specs.declared.block.Block.{Block}
use Rattle.trips_isa.specs.declared.block.Inst.{Inst}
use Rattle.trips_isa.specs.declared.run.Stepped.{Stepped}
use Rattle.trips_isa.specs.declared.run.Stepped.TheVariants.{Trap}
use Rattle.trips_isa.specs.declared.form.Form.{Form}
use Rattle.trips_isa.specs.declared.form.Form.TheVariants.{Load, Store, Branch}
use Rattle.trips_isa.specs.Forms.{form_of}
use Rattle.block_cases.specs.Orders.{slot_of}
use Rattle.commit_flush_spec.specs.Frames.{Frame, at, first_read_place}
use Rattle.commit_flush_spec.specs.Memory.{request}
use Rattle.commit_flush_spec.specs.Window.{Window, Fetch, can}
use Rattle.grid_cycle_spec.specs.Acting.{is_done}
use Rattle.grid_cycle_spec.specs.DataTiles.{stored_by}
use Rattle.grid_cycle_spec.specs.Fetches.{filled}
use Rattle.grid_events.specs.Notes.{Note, Why, WrongExit, End, Begins, Predicts, GivesUp, Fetches, Leaves}
use Rattle.grid_events.specs.Notes.{Seals, Commits, Traps}
use Rattle.grid_events.specs.Notes.{Flushes}
use Rattle.grid_events.specs.ArrivalNotes.{names}
use Rattle.grid_events.specs.StationNotes.{is_null}
use Rattle.grid_cycle_spec.specs.inside.Arrivals.{is_waiting}
use Rattle.grid_parts.specs.inside.Asked.{frame_of, holds_of, found_in}
use Rattle.grid_log.specs.declared.event.Event.{Event}
use Rattle.grid_log.specs.declared.event.Event.TheVariants as event
use Rattle.grid_log.specs.Events.{note_of}

-- what a window tells ------------------------------------------------------------------------------

-- whether the store that waits with a number in a frame is a null one
abbrev pub null_at : ℕ → ℕ → List Frame → Bool
null_at n m fs = holds_of (λ f. is_null (stored_by f (request f m))) (frame_of n fs)

-- the block to which the branch that waits in a frame leads
abbrev pub leads_at : List Block → ℕ → List Frame → Option ℕ
leads_at blocks n fs = found_in (names blocks) (frame_of n fs)

-- flushes ------------------------------------------------------------------------------------------

-- frames are flushed, by number
abbrev pub flushed_by : Why → List ℕ → List Note
flushed_by why [] = []
flushed_by why (n ∷ ns) = Flushes n why ∷ flushed_by why ns

-- the fetch that was under way before and is not behind, each by its block and whether it is careful
abbrev pub given_up : Option (ℕ × Bool) → Option (ℕ × Bool) → List Note
given_up None after = []
given_up (Some f) None = GivesUp f.0 ∷ []
given_up (Some f) (Some k) = []

-- the end of a frame -------------------------------------------------------------------------------

-- a frame is sealed, or is not
abbrev pub sealed_if : Bool → ℕ → List Note
sealed_if b n = cond b (Seals n ∷ []) []

-- how a frame ends that commits, with what a trap flushes
abbrev pub ended_by : Stepped → ℕ → ℕ → List ℕ → List Note
ended_by (Trap cause) n k ns = Traps n k ∷ flushed_by End ns
ended_by _ n k ns = Commits n k ∷ []

-- the oldest frame, by its number and its block
abbrev pub oldest : List Frame → Option (ℕ × ℕ)
oldest [] = None
oldest (f ∷ fs) = Some (f.number, f.block)

-- fetches ------------------------------------------------------------------------------------------

-- whether the frame of a fetch that is due is filled
abbrev pub may_fill : List Block → ℕ → Option ℕ → Window → Bool
may_fill blocks budget None w = false
may_fill blocks budget (Some k) w = is_done (can blocks budget (Fetch k) w)

-- a fetch that is due fills a frame, or is given up
abbrev pub due_notes : Option ℕ → Bool → Option ℕ → List Note
due_notes None may room = []
due_notes (Some k) may room = cond may (Fetches (filled room) k ∷ []) (GivesUp k ∷ [])

-- the number of the youngest frame, where its exit has not come
abbrev pub open_youngest : List Frame → Option ℕ
open_youngest [] = None
open_youngest (f ∷ []) = cond (is_none f.exit) (Some f.number) None
open_youngest (f ∷ (h ∷ fs)) = open_youngest (h ∷ fs)

-- the frame behind which a block is predicted: an open one, where no flushed block stands
abbrev pub guesses : Option ℕ → Option ℕ → Option ℕ
guesses None o = o
guesses (Some k) o = None

-- a prediction, where one was made, before other notes
abbrev pub predicted_if : Option ℕ → ℕ → List Note → List Note
predicted_if None k es = es
predicted_if (Some n) k es = Predicts n k ∷ es

-- a fetch that has begun, by its block and whether it is careful, and the frame behind which it was predicted
abbrev pub begun_notes : Option ℕ → Option (ℕ × Bool) → List Note
begun_notes o None = []
begun_notes o (Some f) = predicted_if o f.0 (Begins f.0 f.1 ∷ [])

-- the same where the fetch unit was idle
abbrev pub begun_if : Bool → Option ℕ → Option (ℕ × Bool) → List Note
begun_if idle o after = cond idle (begun_notes o after) []

-- arrivals -----------------------------------------------------------------------------------------

-- the event where the parcel of a load's slot has arrived in a place of a frame: none where the load waits
abbrev pub load_event : Option ℕ → ℕ → ℕ → Option Event
load_event waiting n p = cond (is_waiting waiting (p / 2)) None (Some (event.Delivers n p))

-- the event where the parcel of a slot has arrived in a place of a frame: none where a load or a store stands at its
-- data tile from now on
abbrev pub slot_event : List Block → Form → Inst → ℕ → Frame → Option Event
slot_event blocks Load i p f = load_event (at f.requests i.number) f.number p
slot_event blocks Store i p f = None
slot_event blocks Branch i p f = Some (event.Leaves f.number (names blocks f))
slot_event blocks _ i p f = Some (event.Delivers f.number p)

-- the same of what a slot holds
abbrev pub inst_event : List Block → Option Inst → ℕ → Frame → Option Event
inst_event blocks None p f = None
inst_event blocks (Some i) p f = slot_event blocks (form_of i.op) i p f

-- the same of a parcel of a slot or of a read
abbrev pub place_event : List Block → ℕ → Frame → Option Event
place_event blocks p f = cond (nat_lt p first_read_place) (inst_event blocks (slot_of f.code (p / 2)) p f)
    (Some (event.Delivers f.number p))

-- the same of the frame of a number, where it is in flight
abbrev pub event_at : List Block → ℕ → ℕ → List Frame → Option Event
event_at blocks n p fs = found_in (place_event blocks p) (frame_of n fs)

-- an event by its note, and what an exit takes along: frames, and the fetch
abbrev pub with_gone : Event → List ℕ → List Note → List Note
with_gone (event.Leaves n k) ns es = Leaves n k ∷ (flushed_by WrongExit ns ++ es)
with_gone e ns es = note_of e ∷ []

-- the same of an event, where there is one
abbrev pub arrived_notes : Option Event → List ℕ → List Note → List Note
arrived_notes None ns es = []
arrived_notes (Some e) ns es = with_gone e ns es
