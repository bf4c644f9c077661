use Rattle.std.proofs.Common.{◌≡◌, ◌+◌, ◌∙◌, Some, None, is_some, refl, sym, arith, subst}
use Rattle.block_cases.specs.Orders.{slot_of, left_of, right_of}
use Rattle.frame_state.specs.inside.Wants.{is_on_true, is_on_false}
use Rattle.frame_state.specs.declared.shape.Shape.{Shape}
use Rattle.frame_state.proofs.WantFacts.{Noted, holds_none, noted_none, noted_some, noted_all}
use Rattle.frame_state.proofs.shape.Shape.make.Goals.{in-Some, in_default}
use Rattle.frame_state.proofs.shape.Shape.make.Goals as goal

pub loop-slot-init : goal.loop-slot-init
loop-slot-init c = record {
  there = holds_none c.none.result (λ k. is_some (slot_of c.args.block.now k)) c.none.ensures;
  left = holds_none c.none-2.result (λ k. left_of (slot_of c.args.block.now k)) c.none-2.ensures;
  right = holds_none c.none-3.result (λ k. right_of (slot_of c.args.block.now k)) c.none-3.ensures;
  on_true = holds_none c.none-4.result (λ k. is_on_true (slot_of c.args.block.now k)) c.none-4.ensures;
  on_false = holds_none c.none-5.result (λ k. is_on_false (slot_of c.args.block.now k)) c.none-5.ensures;
  serial = c.is_serial.ensures;
}

pub loop-slot-preserved : goal.loop-slot-preserved
loop-slot-preserved c = elim c.match-slot_of.branch [
  | in-Some w ↦
      subst (λ (s : Shape). Noted c.args.block.now s (c.loop-slot.slot + 1)) (sym w.shape-is)
      (noted_some c.args.block.now c.loop-slot.shape w.note.new.self c.loop-slot.slot w.in-Some.inst (omega arith)
      c.loop-slot.invariant (sym c.slot_of.ensures.value ∙ w.in-Some.is) w.note.ensures.there w.note.ensures.left
      w.note.ensures.right w.note.ensures.on_true w.note.ensures.on_false w.note.ensures.serial)
  | in_default w ↦
      subst (λ (s : Shape). Noted c.args.block.now s (c.loop-slot.slot + 1)) (sym w.shape-is)
      (noted_none c.args.block.now c.loop-slot.shape c.loop-slot.slot c.loop-slot.invariant
      (sym c.slot_of.ensures.value ∙ w.in_default.is))
]

pub returns : goal.returns
returns c = record {
  value = noted_all c.args.block.now c.loop-slot.shape
      (subst (λ n. Noted c.args.block.now c.loop-slot.shape n) (omega arith) c.loop-slot.invariant);
}
