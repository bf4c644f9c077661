-- One of the eight frames, whatever it is doing, and the frame in flight that it is.
use Rattle.std.specs.Prelude.{◌≡◌, ℕ, ◌-◌, ◌^◌, ◌<◌, ◌==◌, Bool, true, false, cond, List, length, map}
use Rattle.std.specs.Prelude.{Option, Some, None, slice_get}
use Rattle.trips_isa.specs.declared.block.Block.{Block}
use Rattle.commit_flush_spec.specs.Causes.{Happened}
use Rattle.commit_flush_spec.specs.Frames.{Frame}
use Rattle.commit_flush_spec.specs.Older.{Older}
use Rattle.frame_state.specs.inside.Held.{Held, as_frame}
use Rattle.frame_state.specs.declared.phase.Phase.{Phase}
use Rattle.frame_state.specs.declared.phase.Phase.TheVariants.{Free, Going, Done, Away}

-- how often a frame was filled
abbrev pub generation_of : Phase → ℕ
generation_of (Free h) = h.generation
generation_of (Going h) = h.generation
generation_of (Done h) = h.generation
generation_of Away = 0

-- which of the eight frames it is; no frame is away between two events
abbrev pub number_of : Phase → ℕ
number_of (Free h) = h.number
number_of (Going h) = h.number
number_of (Done h) = h.number
number_of Away = 8

-- whether it is sealed
abbrev pub is_done : Phase → Bool
is_done (Free h) = false
is_done (Going h) = false
is_done (Done h) = true
is_done Away = false

-- the frame of a block, if the image has it
abbrev pub with_block : Bool → Held → Option Block → Option Frame
with_block sealed h None = None
with_block sealed h (Some b) = Some (as_frame sealed b h)

-- the frame in flight; none where it is empty
abbrev pub frame_in : List Block → Phase → Option Frame
frame_in blocks (Free h) = None
frame_in blocks (Going h) = with_block false h (slice_get blocks h.block)
frame_in blocks (Done h) = with_block true h (slice_get blocks h.block)
frame_in blocks Away = None

-- no frame in flight runs here
abbrev pub IsIdle : Option Frame → Type 0
IsIdle None = Unit {0}
IsIdle (Some f) = f.sealed ≡ true

-- no frame in flight is sealed here
abbrev pub IsOpen : Option Frame → Type 0
IsOpen None = Unit {0}
IsOpen (Some f) = f.sealed ≡ false

-- the frames in flight by number
abbrev pub slots_of : List Block → List Phase → List (Option Frame)
slots_of blocks phases = map (frame_in blocks) phases

-- a frame in flight holds a block of the image
abbrev pub HasBlock : List Block → Phase → Type 0
HasBlock blocks (Free h) = Unit {0}
HasBlock blocks (Going h) = h.block < length blocks
HasBlock blocks (Done h) = h.block < length blocks
HasBlock blocks Away = Unit {0}

-- a frame is empty, and its generation is not at its last value: it may be filled
abbrev pub IsFree : Phase → Type 0
IsFree (Free h) = (h.generation == 2 ^ 64 - 1) ≡ false
IsFree (Going h) = ⊥
IsFree (Done h) = ⊥
IsFree Away = ⊥

-- what an event of one frame is answered at a frame, and `idle` at an empty one
abbrev pub answered : Happened → (Older → Frame → Happened) → Older → Option Frame → Happened
answered idle can o None = idle
answered idle can o (Some f) = can o f

-- a frame that runs, changed; any other stays
abbrev pub changed : (Frame → Frame) → Option Frame → Option Frame
changed does None = None
changed does (Some f) = Some (cond f.sealed f (does f))

-- one of the eight keeps its number and its generation
pub record Keeps (old new : Phase) : Type 0 where
  pub number : number_of new ≡ number_of old
  pub generation : generation_of new ≡ generation_of old
