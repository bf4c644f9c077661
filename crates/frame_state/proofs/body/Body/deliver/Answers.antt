use Rattle.std.proofs.Common.{ap, ◌∙◌}
use Rattle.std.specs.Prelude.{is_none}
use Rattle.commit_flush_spec.specs.Frames.{at}
use Rattle.frame_state.specs.inside.Held.{running}
use Rattle.frame_state.proofs.NodeFacts.{comes}
use Rattle.frame_state.proofs.StayFacts.{stays_as, moved_stays, keeps_as, moved_keeps}
use Rattle.frame_state.proofs.body.Body.deliver.Goals as goal

pub returns : goal.returns
returns c = record {
  value = λ o. ap (running c.args.block.now) c.bring_to.ensures.value
      ∙ comes c.args.block.now c.args.place c.target-to.result o c.args.self.now c.target-to.ensures.value;
  spots = keeps_as c.args.self.now _ _ c.bring_to.ensures.value (moved_keeps c.args.place c.target-to.result
      (at c.args.self.now.places c.args.place) c.args.self.now
      (ap (λ q. is_none (at c.args.self.now.spots q)) c.target-to.ensures.value ∙ c.requires.free));
  stays = stays_as c.args.self.now _ _ c.bring_to.ensures.value (moved_stays c.args.place c.target-to.result
      (at c.args.self.now.places c.args.place) c.args.self.now);
}
