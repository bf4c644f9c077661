use Rattle.std.proofs.Common.{cond, ap, sym, ◌∙◌}
use Rattle.commit_flush_spec.specs.Dataflow.{fire}
use Rattle.frame_state.specs.inside.Held.{Held, running}
use Rattle.frame_state.specs.inside.Moves.{slot_token}
use Rattle.frame_state.proofs.FiringFacts.{fires_if, same_unless, stays_if}
use Rattle.frame_state.proofs.StayFacts.{stays_as}
use Rattle.frame_state.proofs.body.Body.fire_if.Goals as goal

pub returns : goal.returns
returns c =
    let h : Held = c.args.self.now in
    let i = c.args.inst.now in
    let b = c.args.block.now in
    let t = slot_token h i c.args.slot 0 in
    record {
      fires = c.fire_ready.ensures.fires;
      value = λ o. ap (running b) c.fire_ready.ensures.value ∙ fires_if b c.args.slot i t h c.requires o
          ∙ ap (λ z. cond z (fire c.args.slot o (running b h)) (running b h)) (sym c.fire_ready.ensures.fires);
      same = λ e. c.fire_ready.ensures.value ∙ same_unless i c.args.slot t h (sym c.fire_ready.ensures.fires ∙ e);
      stays = stays_as h _ _ c.fire_ready.ensures.value (stays_if i c.args.slot t h);
    }
