use Rattle.std.proofs.Common.{ap, refl, ◌∙◌}
use Rattle.frame_state.specs.inside.Held.{running}
use Rattle.frame_state.proofs.NodeFacts.{reads}
use Rattle.frame_state.proofs.StayFacts.{stays_as}
use Rattle.frame_state.proofs.body.Body.read.Goals as goal

pub returns : goal.returns
returns c = record {
  value = ap (running c.args.block.now) c.put_read.ensures.value
      ∙ reads c.args.block.now c.args.read c.args.word c.read_targets-targets.result.0 c.read_targets-targets.result.1
      c.args.self.now c.requires c.read_targets-targets.ensures.first c.read_targets-targets.ensures.second;
  stays = stays_as c.args.self.now _ _ c.put_read.ensures.value
      (record { number = refl; block = refl; generation = refl });
}
