use Rattle.std.proofs.Common.{◌≡◌, ℕ, ◌&&◌, nat_lt}
use Rattle.commit_flush_spec.specs.Memory.{is_request, request}
use Rattle.frame_state.specs.inside.Held.{running}
use Rattle.commit_flush.specs.inside.Observed.{is_access}
use Rattle.base.specs.Rows.{has_bit}
use Rattle.commit_flush.proofs.observing.asked_in.Given as goal

abbrev pub invariant-loop-number : goal.invariant-loop-number
invariant-loop-number l = (k : ℕ)
    → has_bit l.bits k ≡ (nat_lt k l.number && is_request is_access (request (running l.block l.held) k))
