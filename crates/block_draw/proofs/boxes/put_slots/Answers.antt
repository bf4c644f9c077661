use Rattle.target_asm_spec.proofs.Numbered.{numbered_step}
use Rattle.block_draw.specs.Boxes.{slot_box}
use Rattle.block_draw.proofs.boxes.put_slots.Goals as goal

pub loop-slot-preserved : goal.loop-slot-preserved
loop-slot-preserved c =
    numbered_step (slot_box c.args.goals.now) c.loop-slot.slot c.args.slots.now _ c.args.out.now.items
    c.loop-slot.out.items _ c.loop-slot-test.true c.loop-slot.invariant c.in_ok-put_slot.ensures.ok
