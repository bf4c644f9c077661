-- Events of one frame that are tried: an event changes the frame where it happens, and else leaves it as it was.
use Rattle.std.specs.Prelude.{◌≡◌, List, Option, Some, None}
use Rattle.trips_isa.specs.declared.block.Block.{Block}
use Rattle.commit_flush_spec.specs.Causes.{Happened, Done, NotNow, NoToken}
use Rattle.commit_flush_spec.specs.Frames.{Frame}
use Rattle.commit_flush_spec.specs.inside.Laws.{IsFree}
use Rattle.frame_state.specs.declared.phase.Phase.{Phase}
use Rattle.frame_state.specs.declared.trying.Arrival.{Arrival}
use Rattle.frame_state.specs.inside.Phases.{frame_in}

-- a frame after an event that is answered so
abbrev pub tried : Happened → (Frame → Frame) → Frame → Frame
tried Done does f = does f
tried (NotNow c) does f = f

-- an event that does not happen leaves what it was tried on
abbrev pub Leaves : {A : Type 0} → Happened → A → A → Type 0
Leaves Done old new = Unit {0}
Leaves (NotNow c) old new = new ≡ old

-- what Deliver is answered where this has come
abbrev pub arrived : Option Arrival → Happened
arrived None = NotNow NoToken
arrived (Some a) = Done

-- law one token, of one of the eight: where it is in flight, no token on its way finds another one where it goes
abbrev pub IsFreeIn : List Block → Phase → Type 0
IsFreeIn blocks p = (f : Frame) → frame_in blocks p ≡ Some f → IsFree f
