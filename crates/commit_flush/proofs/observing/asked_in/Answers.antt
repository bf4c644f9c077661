use Rattle.std.proofs.Common.{◌+◌, refl, ap, ◌∙◌, arith}
use Rattle.commit_flush_spec.specs.Memory.{is_request, request}
use Rattle.frame_state.specs.inside.Held.{running}
use Rattle.commit_flush.specs.inside.Observed.{is_access}
use Rattle.commit_flush.proofs.BitFacts.{all_set, none_yet, one_more}
use Rattle.commit_flush.proofs.observing.asked_in.Goals as goal

pub loop-number-init : goal.loop-number-init
loop-number-init c = none_yet (λ k. is_request is_access (request (running c.args.block.now c.args.held.now) k))

pub loop-number-preserved : goal.loop-number-preserved
loop-number-preserved c =
    one_more c.loop-number.bits _ c.loop-number.number (c.loop-number.number + 1) _
    (λ k. is_request is_access (request (running c.args.block.now c.args.held.now) k)) refl
    c.with_bit-bits.ensures.same c.with_bit-bits.ensures.here
    (c.is_access.ensures ∙ ap (is_request is_access) c.request.ensures.value) c.loop-number.invariant

pub returns : goal.returns
returns c = λ k l. all_set _ c.loop-number.number
    (λ n. is_request is_access (request (running c.args.block.now c.args.held.now) n))
    c.loop-number.invariant k (omega arith)
