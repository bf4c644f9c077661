use Rattle.std.proofs.Common.{◌≡◌, ◌+◌, ◌-◌}
use Rattle.std.specs.Prelude.{is_some}
use Rattle.commit_flush_spec.specs.Frames.{at}
use Rattle.frame_state.specs.Lacks.{first_missing}
use Rattle.frame_state.proofs.lacks.first_write.Given as goal

abbrev pub invariant-loop-w : goal.invariant-loop-w
invariant-loop-w l = first_missing (λ w. is_some (at l.spots (384 + w))) l.count 0
    ≡ first_missing (λ w. is_some (at l.spots (384 + w))) (l.count - l.w) l.w
