use Rattle.std.proofs.Common.{false, sym, ◌∙◌}
use Rattle.frame_state.specs.inside.Held.{running}
use Rattle.frame_state.proofs.NodeFacts.{mark_is}
use Rattle.frame_state.proofs.TargetFacts.{empty_mark}
use Rattle.frame_state.proofs.body.Body.mark_at.Goals as goal

pub returns-in-None : goal.returns-in-None
returns-in-None c = sym (empty_mark (running c.args.block.now c.args.self.now) c.args.slot
    (sym c.in-None.ensures.value))

pub returns-in-Some : goal.returns-in-Some
returns-in-Some c = c.mark_of.ensures.value
    ∙ sym (mark_is c.args.block.now c.args.slot c.in-Some.inst (sym c.in-Some.ensures.value) false c.args.self.now)
