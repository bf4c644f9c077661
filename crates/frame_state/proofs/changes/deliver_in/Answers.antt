use Rattle.std.proofs.Common.{ap, sym, ◌∙◌}
use Rattle.commit_flush_spec.specs.Dataflow.{deliver}
use Rattle.frame_state.specs.inside.Phases.{changed, frame_in}
use Rattle.frame_state.specs.inside.Told.{finds_room}
use Rattle.frame_state.proofs.PhaseFacts.{going}
use Rattle.frame_state.proofs.TryFacts.{going_is}
use Rattle.frame_state.proofs.changes.deliver_in.Goals as goal

pub deliver-requires : goal.deliver-requires
deliver-requires c = record {
  free = sym (ap (finds_room c.args.place)
      (going_is c.args.image.now.blocks c.block_at-block.result.now c.in-Going.running
      c.args.phase.now c.in-Going.is (cc))) ∙ c.requires.free;
}

pub returns-in-Going-clause-frame : goal.returns-in-Going-clause-frame
returns-in-Going-clause-frame c = λ o.
    going c.args.image.now.blocks c.block_at-block.result.now
    (deliver c.args.place o) c.in-Going.running c.deliver.new.self
    (cc) c.deliver.ensures.stays (c.deliver.ensures.value o)
    ∙ ap (λ p. changed (deliver c.args.place o) (frame_in c.args.image.now.blocks p)) (sym c.in-Going.is)
