use Rattle.std.proofs.Common.{◌+◌, refl, arith}
use Rattle.commit_flush_spec.specs.Window.{Fire, can}
use Rattle.frame_state.specs.inside.Events.{is_done}
use Rattle.commit_flush.proofs.BitFacts.{all_set, none_yet, one_more}
use Rattle.commit_flush.proofs.window.Window.ready.Goals as goal

pub loop-slot-init : goal.loop-slot-init
loop-slot-init c = none_yet
    (λ k. is_done (can c.args.self.now.image.blocks c.args.self.now.budget
    (Fire c.args.frame k) c.args.self.now.window))

pub loop-slot-preserved : goal.loop-slot-preserved
loop-slot-preserved c =
    one_more c.loop-slot.bits _ c.loop-slot.slot (c.loop-slot.slot + 1) _
    (λ k. is_done (can c.args.self.now.image.blocks c.args.self.now.budget
    (Fire c.args.frame k) c.args.self.now.window)) refl
    c.with_wide_bit-bits.ensures.same c.with_wide_bit-bits.ensures.here c.may_fire.ensures c.loop-slot.invariant

pub returns : goal.returns
returns c = record {
  value = λ s l. all_set _ c.loop-slot.slot
      (λ k. is_done (can c.args.self.now.image.blocks c.args.self.now.budget
      (Fire c.args.frame k) c.args.self.now.window))
      c.loop-slot.invariant s (omega arith);
}
