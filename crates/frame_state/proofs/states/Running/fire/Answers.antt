use Rattle.std.proofs.Common.{ap, subst, ◌∙◌}
use Rattle.commit_flush_spec.specs.Dataflow.{fire}
use Rattle.frame_state.specs.inside.Held.{Held, Stays, running}
use Rattle.frame_state.proofs.states.Running.fire.Goals as goal

pub returns : goal.returns
returns c = record {
  value = λ o. c.fire.ensures.value o
      ∙ ap (λ (h : Held). fire c.args.slot o (running c.args.block.now h))
      (c.deref_mut.ensures.value ∙ c.self.view_is);
  stays = subst (λ (h : Held). Stays h c.fire.new.self) (c.deref_mut.ensures.value ∙ c.self.view_is)
      c.fire.ensures.stays;
}
