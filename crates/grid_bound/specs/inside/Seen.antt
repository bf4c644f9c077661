-- The lane of a grid: how far the oldest frame is, read off the window and the grid.
use Rattle.std.specs.Prelude.{ℕ, suc, ◌+◌, ◌-◌, ◌*◌, ◌==◌, ◌&&◌, Bool, false, cond, nat_lt, List, [], ◌∷◌, length}
use Rattle.std.specs.Prelude.{Option, Some, None, is_some, slice_get, slice_index, slice_index_or}
use Rattle.trips_isa.specs.declared.block.Inst.{Inst}
use Rattle.trips_isa.specs.declared.block.ReadSlot.{ReadSlot}
use Rattle.trips_isa.specs.PlaceNumbers.{first_store, exit_place}
use Rattle.trips_isa.specs.Forms.{form_of}
use Rattle.block_cases.specs.Orders.{slot_of}
use Rattle.commit_flush_spec.specs.Frames.{Frame, at}
use Rattle.grid_cycle_spec.specs.Grid.{Grid, Fetching}
use Rattle.grid_cycle_spec.specs.inside.Arrivals.{is_waiting}
use Rattle.grid_cycle_spec.specs.Fetches.{stands}
use Rattle.grid_bound.specs.inside.Course.{Kind, Serving, Course}
use Rattle.grid_bound.specs.inside.Lane.{Phase, Absent, Idle, Working, Asking, Standing, Sent, Front, Stage, Running}
use Rattle.grid_bound.specs.inside.Lane.{Lane}
use Rattle.grid_bound.specs.inside.Lane as lane
use Rattle.grid_bound.specs.inside.Blocks.{kind_of, slot_tasks}

-- the tokens of task x of a frame
abbrev pub sent_of : {W : Type 0} → Grid W → Frame → ℕ → Phase
sent_of g f x = Sent (g.parcels f.number (2 * x)) (g.parcels f.number (suc (2 * x)))

-- a request that waits with a number stands at its data tile, or travels
abbrev pub asking : {W : Type 0} → Grid W → Frame → ℕ → ℕ → Phase
asking g f s n = cond (g.asked f.number n) Standing (Asking (g.parcels f.number (2 * s)))

-- how far an instruction is that has left its unit: a load or a store until it is answered has a request
abbrev pub after_unit : {W : Type 0} → Grid W → Frame → ℕ → Inst → Kind → Phase
after_unit g f s i Serving = cond (is_waiting (at f.requests i.number) s) (asking g f s i.number) (sent_of g f s)
after_unit g f s i _ = sent_of g f s

-- how far what slot s holds is
abbrev pub slot_phase : {W : Type 0} → Grid W → Frame → ℕ → Option Inst → Phase
slot_phase g f s None = Absent
slot_phase g f s (Some i) = cond (slice_index_or f.fired s false)
    (cond (g.works f.number s) Working (after_unit g f s i (kind_of (form_of i.op)))) Idle

-- how far read r is
abbrev pub read_phase : {W : Type 0} → Grid W → Frame → ℕ → Option ReadSlot → Phase
read_phase g f r None = Absent
read_phase g f r (Some slot) = cond (slice_index_or f.reads r false) (sent_of g f (slot_tasks + r)) Idle

-- how far each task is
abbrev pub phase_of : {W : Type 0} → Grid W → Frame → ℕ → Phase
phase_of g f x = cond (nat_lt x slot_tasks) (slot_phase g f x (slot_of f.code x))
    (read_phase g f (x - slot_tasks) (slice_get f.code.reads.items (x - slot_tasks)))

-- whether a spot has its token: an operand, a predicate or a write, the store of a number, or the exit; there is no
-- other spot
abbrev pub has_come : Frame → ℕ → Bool
has_come f q = cond (nat_lt q first_store) (is_some (at f.spots q))
    (cond (nat_lt q exit_place) (is_some (at f.stores (q - first_store))) (q == exit_place && is_some f.exit))

-- the oldest frame, of this course
abbrev pub front_of : {W : Type 0} → Course → Grid W → Frame → Front
front_of c g f = record {
  course = c;
  generation = slice_index g.window.generations f.number;
  at = phase_of g f;
  come = has_come f;
  careful = g.careful f.number;
}

-- the fetch of the next block: under way, or to begin
abbrev pub fetch_of : {W : Type 0} → Grid W → Option Fetching → Stage
fetch_of g None = lane.Fetching None (stands g.standing g.window.state.next)
fetch_of g (Some f) = lane.Fetching (Some f.left) f.careful

-- the stage of the block that commits next
abbrev pub stage_of : {W : Type 0} → Course → Grid W → List Frame → Stage
stage_of c g [] = fetch_of g g.fetching
stage_of c g (f ∷ fs) = Running (front_of c g f)

-- the lane, where the block that commits next is of this course; the trace is as long as blocks have been committed
abbrev pub lane_of : {W : Type 0} → Course → Grid W → Lane
lane_of c g = record {
  stage = stage_of c g g.window.frames;
  units = g.units;
  done = length g.window.state.trace;
}
