-- What is told of the frame of a number beside what crates/frame_state tells of one frame. Nothing is told where no
-- frame is in flight.
use Rattle.std.specs.Prelude.{ℕ, Option, Some, None}
use Rattle.trips_isa.specs.declared.block.Stored.{Stored}
use Rattle.commit_flush_spec.specs.Frames.{Frame, Exit, at}

-- the number of an exit
abbrev pub number_of_exit : Option Exit → Option ℕ
number_of_exit None = None
number_of_exit (Some e) = Some e.exit

-- the store of number n, where it is resolved
abbrev pub stored_in : ℕ → Option Frame → Option Stored
stored_in n None = None
stored_in n (Some f) = at f.stores n
