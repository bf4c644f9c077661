use Rattle.std.proofs.Common.{◌≡◌, ◌||◌, not, true}
use Rattle.std.specs.Prelude.{is_some}
use Rattle.trips_isa.specs.Places.{in_mask}
use Rattle.commit_flush_spec.specs.Frames.{at}
use Rattle.commit_flush_spec.specs.Ends.{all_below}
use Rattle.frame_state.proofs.outcome.stores_came.Given as goal

abbrev pub invariant-loop-number : goal.invariant-loop-number
invariant-loop-number l = all_below (λ n. not (in_mask l.mask n) || is_some (at l.stores n)) l.number ≡ true
