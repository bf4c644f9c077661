-- Which output the oldest frame lacks, and what can be done for it.
use Rattle.std.specs.Prelude.{◌≡◌, ℕ, true, List, [], ◌∷◌, Option, slice_get}
use Rattle.trips_isa.specs.declared.block.Block.{Block}
use Rattle.commit_flush_spec.specs.Causes.{Done}
use Rattle.commit_flush_spec.specs.Frames.{Frame}
use Rattle.commit_flush_spec.specs.Window.{Event, Window, can}
use Rattle.commit_flush_spec.specs.DrivingLaws.{is_step_of}
use Rattle.frame_state.specs.declared.parts.Lack.{Lack}
use Rattle.commit_flush.specs.Observed.{lack_in}

-- the least output that the oldest of some frames lacks; none where there is none, and where it is sealed
abbrev pub oldest_lacks : List Frame → Option Lack
oldest_lacks fs = lack_in (slice_get fs 0)

-- a Read, a Fire, a Deliver, a Load, a Store or an Exit of the frame of number n would be Done
pub record HasStep (blocks : List Block) (budget : ℕ) (w : Window) (n : ℕ) : Type 0 where
  -- the event that would be done
  pub event : Event
  -- it is of that frame, and of none of the other kinds
  pub is_step : is_step_of n event ≡ true
  pub done : can blocks budget event w ≡ Done

-- one of these of the oldest of some frames
abbrev pub OldestSteps : List Block → ℕ → Window → List Frame → Type 0
OldestSteps blocks budget w [] = ⊥
OldestSteps blocks budget w (f ∷ fs) = HasStep blocks budget w f.number
