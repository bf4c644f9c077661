use Rattle.target_asm_spec.proofs.Numbered.{numbered_step}
use Rattle.block_draw.specs.Arcs.{slot_arcs}
use Rattle.block_draw.proofs.arcs.put_slots_arcs.Goals as goal

pub loop-slot-preserved : goal.loop-slot-preserved
loop-slot-preserved c = numbered_step slot_arcs c.loop-slot.slot c.args.slots.now _ c.args.out.now.items
    c.loop-slot.out.items _ c.loop-slot-test.true c.loop-slot.invariant c.in_ok-put_slot_arcs.ensures.ok
