use Rattle.std.proofs.Common.{◌≡◌, ◌++◌, take}
use Rattle.target_asm_spec.specs.Numbers.{numbered}
use Rattle.target_asm_spec.specs.inside.Chunks.{goal_in}
use Rattle.target_asm_spec.specs.Text.{slot_text}
use Rattle.target_asm.proofs.printing.put_slots.Given as goal

-- the lines of the slots so far are written
abbrev pub invariant-loop-slot : goal.invariant-loop-slot
invariant-loop-slot l = l.out.items ≡ l.initial.out.items ++ numbered
    (slot_text (goal_in l.starts) l.here) 0 (take l.slot l.slots)
