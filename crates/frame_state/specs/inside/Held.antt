-- What a frame in flight holds beside its block, and the frame of the window's definitions that this is
-- (docs/WINDOW.md, "A frame").
use Rattle.std.specs.Prelude.{◌≡◌, ℕ, ◌+◌, Bool, true, false, List, map, Option, Some, None}
use Rattle.trips_isa.specs.declared.block.Stored.{Stored}
use Rattle.trips_isa.specs.declared.block.Block.{Block}
use Rattle.trips_isa.specs.PlaceNumbers.{first_store}
use Rattle.trips_isa.specs.Rule.{Answer}
use Rattle.commit_flush_spec.specs.Marks.{Marks}
use Rattle.commit_flush_spec.specs.Frames.{Frame, Exit, Taken, NoBytes, Bytes, blank, unset, unmarked}
use Rattle.commit_flush_spec.specs.Frames.{token_places}
use Rattle.frame_state.specs.declared.parts.Took.{Took}
use Rattle.frame_state.specs.declared.parts.Took.TheVariants as took
use Rattle.frame_state.specs.declared.parts.Departure.{Departure}

-- a frame without its block, and how often it was filled
pub record Held : Type 0 where
  -- which of the eight frames it is, and the number of its block in the image
  pub number : ℕ
  pub block : ℕ
  -- how often the frame was filled
  pub generation : ℕ
  -- the tokens that have come, and those on their way
  pub spots : List Answer
  pub places : List Answer
  -- the slots that have fired, and the reads that are answered
  pub fired : List Bool
  pub reads : List Bool
  -- what waits
  pub requests : List (Option ℕ)
  -- the slot of the branch that waits
  pub leaving : Option ℕ
  -- what the answered loads took, the resolved stores and the exit
  pub loads : List (Option Taken)
  pub stores : List (Option Stored)
  pub exit : Option Exit
  -- the marks beside all these tokens
  pub marks : Marks

-- the frame of a block that holds this, sealed or running
abbrev pub as_frame : Bool → Block → Held → Frame
as_frame sealed b h = record {
  number = h.number;
  sealed = sealed;
  block = h.block;
  code = b;
  spots = h.spots;
  places = h.places;
  fired = h.fired;
  reads = h.reads;
  requests = h.requests;
  leaving = h.leaving;
  loads = h.loads;
  stores = h.stores;
  exit = h.exit;
  marks = h.marks;
}

-- the frame that a running frame is
abbrev pub running : Block → Held → Frame
running b h = as_frame false b h

-- the frame that a sealed frame is
abbrev pub sealed : Block → Held → Frame
sealed b h = as_frame true b h

-- a frame that is filled with block k: nothing has come, and its generation is one more
abbrev pub filled : ℕ → Held → Held
filled k h = record {
  number = h.number;
  block = k;
  generation = h.generation + 1;
  spots = blank first_store;
  places = blank token_places;
  fired = unset 128;
  reads = unset 32;
  requests = blank 32;
  leaving = None;
  loads = blank 32;
  stores = blank 32;
  exit = None;
  marks = unmarked;
}

-- what an answered load took, in the window's words
abbrev pub taken_of : Took → Taken
taken_of took.Nothing = NoBytes
taken_of (took.From address size) = Bytes address size

-- what a load took, where it is answered
abbrev pub taken_if : Option Took → Option Taken
taken_if None = None
taken_if (Some t) = Some (taken_of t)

-- what the answered load of each number took
abbrev pub all_taken : List (Option Took) → List (Option Taken)
all_taken xs = map taken_if xs

-- an exit, in the window's words
abbrev pub as_exit : Departure → Exit
as_exit d = record { exit = d.exit; system = d.system; successor = d.successor }

-- the exit that has come
abbrev pub exit_of : Option Departure → Option Exit
exit_of None = None
exit_of (Some d) = Some (as_exit d)

-- a frame keeps its number, its block and its generation
pub record Stays (old new : Held) : Type 0 where
  pub number : new.number ≡ old.number
  pub block : new.block ≡ old.block
  pub generation : new.generation ≡ old.generation
