-- What is lent of a frame in flight.
use Rattle.std.specs.Prelude.{◌≡◌, Bool, Option, Some}
use Rattle.trips_isa.specs.declared.block.Block.{Block}
use Rattle.commit_flush_spec.specs.Frames.{Frame}
use Rattle.frame_state.specs.inside.Held.{Held, as_frame}

-- this is what a frame holds, be it sealed or running, and this is its block
abbrev pub IsLent : Held → Block → Option Frame → Type 0
IsLent h b z = (sealed : Bool) × (z ≡ Some (as_frame sealed b h))
