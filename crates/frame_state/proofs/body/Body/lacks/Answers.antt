use Rattle.std.proofs.Common.{ap, ◌∙◌}
use Rattle.std.specs.Prelude.{is_none}
use Rattle.frame_state.specs.inside.Held.{running}
use Rattle.frame_state.proofs.LackFacts.{lacks_none}
use Rattle.frame_state.proofs.body.Body.lacks.Goals as goal

pub returns : goal.returns
returns c = record {
  value = c.lacks_first.ensures;
  whole = ap is_none c.lacks_first.ensures ∙ lacks_none (running c.args.block.now c.args.self.now);
}
