use Rattle.std.proofs.Common.{Some, ap, sym, ◌∙◌}
use Rattle.std.specs.Prelude.{is_none}
use Rattle.commit_flush_spec.specs.Frames.{at}
use Rattle.frame_state.specs.inside.Held.{Held, running}
use Rattle.frame_state.specs.inside.Moves.{moved}
use Rattle.frame_state.proofs.NodeFacts.{comes}
use Rattle.frame_state.proofs.StayFacts.{stays_as, moved_stays, keeps_as, moved_keeps}
use Rattle.frame_state.proofs.body.Body.deliver_to.Goals as goal

pub returns : goal.returns
returns c = record {
  value = λ o.
      let h : Held = c.args.self.now in
      ap (running c.args.block.now) (c.bring.ensures
      ∙ ap (λ t. moved c.args.place c.args.to t h) (sym c.requires.token))
      ∙ comes c.args.block.now c.args.place c.args.to o h c.requires.to;
  spots = keeps_as c.args.self.now _ _ c.bring.ensures
      (moved_keeps c.args.place c.args.to (Some c.args.token) c.args.self.now
      (ap (λ q. is_none (at c.args.self.now.spots q)) c.requires.to ∙ c.requires.free));
  stays = stays_as c.args.self.now _ _ c.bring.ensures
      (moved_stays c.args.place c.args.to (Some c.args.token) c.args.self.now);
}
