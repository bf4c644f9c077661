use Rattle.std.proofs.Common.{◌≡◌, ◌-◌, ◌||◌, not}
use Rattle.std.specs.Prelude.{is_some}
use Rattle.trips_isa.specs.Places.{in_mask}
use Rattle.commit_flush_spec.specs.Frames.{at, numbers}
use Rattle.frame_state.specs.Lacks.{first_missing}
use Rattle.frame_state.proofs.lacks.first_store.Given as goal

abbrev pub invariant-loop-number : goal.invariant-loop-number
invariant-loop-number l = first_missing (λ n. not (in_mask l.mask n) || is_some (at l.stores n)) numbers 0
    ≡ first_missing (λ n. not (in_mask l.mask n) || is_some (at l.stores n)) (32 - l.number) l.number
