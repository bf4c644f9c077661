use Rattle.std.proofs.Common.{true, set, ap, refl, ◌∙◌}
use Rattle.frame_state.specs.inside.Held.{Held, running}
use Rattle.frame_state.specs.inside.Moves.{fired_slot}
use Rattle.frame_state.proofs.NodeFacts.{fires}
use Rattle.frame_state.proofs.StayFacts.{stays_as, slot_stays}
use Rattle.frame_state.proofs.body.Body.fire.Goals as goal

pub returns : goal.returns
returns c = record {
  value = λ o.
      let h : Held = c.args.self.now in
      ap (running c.args.block.now) (c.fire_slot.ensures.value
      ∙ ap (λ i. fired_slot i c.args.slot (record h { fired = set h.fired c.args.slot true }))
      c.slot_of-inst.ensures.value)
      ∙ fires c.args.block.now c.args.slot o h;
  stays = let h : Held = c.args.self.now in
      stays_as h _ _ c.fire_slot.ensures.value (slot_stays c.slot_of-inst.result c.args.slot h
      (record h { fired = set h.fired c.args.slot true })
      (record { number = refl; block = refl; generation = refl }));
}
