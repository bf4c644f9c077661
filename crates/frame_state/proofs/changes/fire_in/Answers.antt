use Rattle.std.proofs.Common.{ap, sym, ◌∙◌}
use Rattle.commit_flush_spec.specs.Dataflow.{fire}
use Rattle.frame_state.specs.inside.Phases.{changed, frame_in}
use Rattle.frame_state.proofs.PhaseFacts.{going}
use Rattle.frame_state.proofs.changes.fire_in.Goals as goal

pub returns-in-Going-clause-frame : goal.returns-in-Going-clause-frame
returns-in-Going-clause-frame c = λ o.
    going c.args.image.now.blocks c.block_at-block.result.now (fire c.args.slot o) c.in-Going.running c.fire.new.self
    (cc) c.fire.ensures.stays (c.fire.ensures.value o)
    ∙ ap (λ p. changed (fire c.args.slot o) (frame_in c.args.image.now.blocks p)) (sym c.in-Going.is)
