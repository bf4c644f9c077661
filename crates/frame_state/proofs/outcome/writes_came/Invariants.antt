use Rattle.std.proofs.Common.{◌≡◌, ◌+◌, true}
use Rattle.std.specs.Prelude.{is_some}
use Rattle.commit_flush_spec.specs.Frames.{at}
use Rattle.commit_flush_spec.specs.Ends.{all_below}
use Rattle.frame_state.proofs.outcome.writes_came.Given as goal

abbrev pub invariant-loop-w : goal.invariant-loop-w
invariant-loop-w l = all_below (λ w. is_some (at l.spots (384 + w))) l.w ≡ true
