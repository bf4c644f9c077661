use Rattle.std.proofs.Common.{None, Some, set, ap, refl, ◌∙◌}
use Rattle.frame_state.specs.inside.Held.{Held, running, taken_of}
use Rattle.frame_state.specs.inside.Moves.{slot_token, slot_mark}
use Rattle.frame_state.proofs.NodeFacts.{answers}
use Rattle.frame_state.proofs.StayFacts.{stays_as, sent_stays}
use Rattle.frame_state.proofs.body.Body.answer.Goals as goal

pub returns : goal.returns
returns c = record {
  value = λ o e. ap (running c.args.block.now) c.note_answer.ensures.value
      ∙ answers c.args.block.now c.args.number c.args.slot c.args.bytes c.args.inst o c.args.self.now
      (taken_of c.took-took.result) c.requires c.took-took.ensures.value e;
  stays = let h : Held = c.args.self.now in
      stays_as h _ _ c.note_answer.ensures.value (sent_stays c.args.inst c.args.slot
      (slot_token h c.args.inst c.args.slot c.args.bytes) (slot_mark h c.args.inst c.args.slot) h
      (record h {
        requests = set h.requests c.args.number None;
        loads = set h.loads c.args.number (Some (taken_of c.took-took.result));
      })
      (record { number = refl; block = refl; generation = refl }));
}
