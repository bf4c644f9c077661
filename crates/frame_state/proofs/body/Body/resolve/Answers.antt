use Rattle.std.proofs.Common.{ap, refl, ◌∙◌}
use Rattle.frame_state.specs.inside.Held.{running}
use Rattle.frame_state.proofs.NodeFacts.{resolves}
use Rattle.frame_state.proofs.StayFacts.{stays_as}
use Rattle.frame_state.proofs.body.Body.resolve.Goals as goal

pub returns : goal.returns
returns c = record {
  value = ap (running c.args.block.now) c.note_store.ensures.value
      ∙ resolves c.args.block.now c.args.number c.args.slot c.args.inst c.args.self.now c.requires;
  stays = stays_as c.args.self.now _ _ c.note_store.ensures.value
      (record { number = refl; block = refl; generation = refl });
}
