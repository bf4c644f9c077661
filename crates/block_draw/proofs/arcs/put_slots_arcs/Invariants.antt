use Rattle.std.proofs.Common.{◌≡◌, ◌++◌, take}
use Rattle.target_asm_spec.specs.Numbers.{numbered}
use Rattle.block_draw.specs.Arcs.{slot_arcs}
use Rattle.block_draw.proofs.arcs.put_slots_arcs.Given as goal

-- those so far are written
abbrev pub invariant-loop-slot : goal.invariant-loop-slot
invariant-loop-slot l = l.out.items ≡ l.initial.out.items ++ numbered slot_arcs 0 (take l.slot l.slots)
