use Rattle.std.proofs.Common.{◌≡◌, ◌++◌, take}
use Rattle.target_asm_spec.specs.Numbers.{numbered}
use Rattle.block_draw.specs.Boxes.{slot_box}
use Rattle.block_draw.proofs.boxes.put_slots.Given as goal

-- those so far are written
abbrev pub invariant-loop-slot : goal.invariant-loop-slot
invariant-loop-slot l = l.out.items ≡ l.initial.out.items ++ numbered (slot_box l.goals) 0 (take l.slot l.slots)
