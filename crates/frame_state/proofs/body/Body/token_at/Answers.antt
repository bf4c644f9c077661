use Rattle.std.proofs.Common.{false, sym, ◌∙◌}
use Rattle.frame_state.specs.inside.Held.{running}
use Rattle.frame_state.proofs.NodeFacts.{token_is}
use Rattle.frame_state.proofs.TargetFacts.{empty_token}
use Rattle.frame_state.proofs.body.Body.token_at.Goals as goal

pub returns-in-None : goal.returns-in-None
returns-in-None c = record {
  value = sym (empty_token (running c.args.block.now c.args.self.now) c.args.slot 0 (sym c.in-None.ensures.value));
}

pub returns-in-Some : goal.returns-in-Some
returns-in-Some c = record {
  value = c.token_of.ensures.value
      ∙ sym (token_is c.args.block.now c.args.slot c.in-Some.inst
      (sym c.in-Some.ensures.value) false c.args.self.now 0);
}
