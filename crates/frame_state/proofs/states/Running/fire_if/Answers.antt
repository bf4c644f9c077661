use Rattle.std.proofs.Common.{cond, ap, subst, ◌∙◌}
use Rattle.std.specs.Prelude.{is_some}
use Rattle.commit_flush_spec.specs.Dataflow.{fire}
use Rattle.frame_state.specs.inside.Held.{Held, Stays, running}
use Rattle.frame_state.specs.inside.Moves.{slot_token}
use Rattle.frame_state.proofs.states.Running.fire_if.Goals as goal

pub returns : goal.returns
returns c =
    let b = c.args.block.now in
    let z = c.fire_if.result in
    let same = c.deref_mut.ensures.value ∙ c.self.view_is in
    record {
      fires = c.fire_if.ensures.fires ∙ ap (λ (h : Held). is_some (slot_token h c.args.inst.now c.args.slot 0)) same;
      value = λ o. c.fire_if.ensures.value o
          ∙ ap (λ (h : Held). cond z (fire c.args.slot o (running b h)) (running b h)) same;
      same = λ e. c.fire_if.ensures.same e ∙ same;
      stays = subst (λ (h : Held). Stays h c.fire_if.new.self) same c.fire_if.ensures.stays;
    }
