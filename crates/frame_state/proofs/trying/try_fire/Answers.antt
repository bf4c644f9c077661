use Rattle.std.proofs.Common.{◌≡◌, Some, slice_get, ap, sym, ◌∙◌}
use Rattle.commit_flush_spec.specs.Causes.{NoFrame, NotNow}
use Rattle.commit_flush_spec.specs.Dataflow.{can_fire, fire}
use Rattle.frame_state.specs.inside.Held.{running}
use Rattle.frame_state.specs.Events.{as_happened}
use Rattle.frame_state.specs.inside.Phases.{changed, frame_in}
use Rattle.frame_state.specs.inside.Tried.{tried}
use Rattle.frame_state.proofs.PhaseFacts.{asked, going}
use Rattle.frame_state.proofs.TryFacts.{going_is}
use Rattle.frame_state.proofs.trying.try_fire.Goals as goal

pub returns-in-Going-clause-answer : goal.returns-in-Going-clause-answer
returns-in-Going-clause-answer c =
    let blocks = c.args.image.now.blocks in
    let b = c.block_at-block.result.now in
    let h = c.in-Going.frame in
    let is : slice_get blocks h.block ≡ Some b = cc in
    λ o. asked (NotNow NoFrame) (can_fire c.args.slot) o (frame_in blocks c.args.phase.now) (running b h) _
    (going_is blocks b h c.args.phase.now c.in-Going.is is) (c.fire_running.ensures.answer o)

pub returns-in-Going-clause-frame : goal.returns-in-Going-clause-frame
returns-in-Going-clause-frame c =
    let blocks = c.args.image.now.blocks in
    let b = c.block_at-block.result.now in
    let h = c.in-Going.frame in
    let is : slice_get blocks h.block ≡ Some b = cc in
    λ o.
    going blocks b (tried (as_happened c.fire_running.result) (fire c.args.slot o)) h c.fire_running.new.frame is
    c.fire_running.ensures.stays (c.fire_running.ensures.frame o)
    ∙ ap (λ p. changed (tried (as_happened c.fire_running.result) (fire c.args.slot o)) (frame_in blocks p))
    (sym c.in-Going.is)
