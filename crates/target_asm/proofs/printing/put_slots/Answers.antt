use Rattle.target_asm_spec.specs.inside.Chunks.{goal_in}
use Rattle.target_asm_spec.specs.Text.{slot_text}
use Rattle.target_asm_spec.proofs.Numbered.{numbered_step}
use Rattle.target_asm.proofs.printing.put_slots.Goals as goal

pub loop-slot-preserved : goal.loop-slot-preserved
loop-slot-preserved c =
    numbered_step (slot_text (goal_in c.args.starts.now) c.args.here) c.loop-slot.slot
    c.args.slots.now _ c.args.out.now.items c.loop-slot.out.items _ c.loop-slot-test.true
    c.loop-slot.invariant c.in_ok-put_slot.ensures.ok
