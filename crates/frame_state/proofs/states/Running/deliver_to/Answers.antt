use Rattle.std.proofs.Common.{ap, subst, ◌∙◌}
use Rattle.commit_flush_spec.specs.Dataflow.{deliver}
use Rattle.frame_state.specs.inside.Held.{Held, Stays, running}
use Rattle.frame_state.specs.inside.Moves.{KeepsSpots}
use Rattle.frame_state.proofs.states.Running.deliver_to.Goals as goal

pub returns : goal.returns
returns c = record {
  value = λ o. c.deliver_to.ensures.value o
      ∙ ap (λ (h : Held). deliver c.args.place o (running c.args.block.now h))
      (c.deref_mut.ensures.value ∙ c.self.view_is);
  spots = subst (λ (h : Held). KeepsSpots h c.deliver_to.new.self) (c.deref_mut.ensures.value ∙ c.self.view_is)
      c.deliver_to.ensures.spots;
  stays = subst (λ (h : Held). Stays h c.deliver_to.new.self) (c.deref_mut.ensures.value ∙ c.self.view_is)
      c.deliver_to.ensures.stays;
}
