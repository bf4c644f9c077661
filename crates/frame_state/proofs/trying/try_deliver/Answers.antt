use Rattle.std.proofs.Common.{◌≡◌, Some, slice_get, ap, sym, ◌∙◌}
use Rattle.commit_flush_spec.specs.Causes.{NoToken, NotNow}
use Rattle.commit_flush_spec.specs.Dataflow.{can_deliver, deliver}
use Rattle.frame_state.specs.inside.Held.{running}
use Rattle.frame_state.specs.inside.Phases.{changed, frame_in}
use Rattle.frame_state.specs.inside.Tried.{arrived, tried}
use Rattle.frame_state.proofs.PhaseFacts.{asked, going}
use Rattle.frame_state.proofs.TryFacts.{going_is}
use Rattle.frame_state.proofs.trying.try_deliver.Goals as goal

pub deliver_running-requires : goal.deliver_running-requires
deliver_running-requires c = record {
  free = c.requires.free (running c.block_at-block.result.now c.in-Going.frame)
      (going_is c.args.image.now.blocks c.block_at-block.result.now c.in-Going.frame c.args.phase.now c.in-Going.is
      (cc));
}

pub returns-in-Going-clause-answer : goal.returns-in-Going-clause-answer
returns-in-Going-clause-answer c =
    let blocks = c.args.image.now.blocks in
    let b = c.block_at-block.result.now in
    let h = c.in-Going.frame in
    let is : slice_get blocks h.block ≡ Some b = cc in
    λ o. asked (NotNow NoToken) (can_deliver c.args.place) o (frame_in blocks c.args.phase.now) (running b h) _
    (going_is blocks b h c.args.phase.now c.in-Going.is is) (c.deliver_running.ensures.answer o)

pub returns-in-Going-clause-frame : goal.returns-in-Going-clause-frame
returns-in-Going-clause-frame c =
    let blocks = c.args.image.now.blocks in
    let b = c.block_at-block.result.now in
    let h = c.in-Going.frame in
    let is : slice_get blocks h.block ≡ Some b = cc in
    λ o.
    going blocks b (tried (arrived c.deliver_running.result) (deliver c.args.place o)) h c.deliver_running.new.frame
    is
    c.deliver_running.ensures.stays (c.deliver_running.ensures.frame o)
    ∙ ap (λ p. changed (tried (arrived c.deliver_running.result) (deliver c.args.place o)) (frame_in blocks p))
    (sym c.in-Going.is)
