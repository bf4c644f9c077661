use Rattle.std.proofs.Common.{◌≡◌, ◌++◌, length}
use Rattle.target_asm_spec.specs.inside.Blocks.{gap}
use Rattle.target_asm.proofs.slots.pad.Given as goal

-- the slots so far are empty
abbrev pub invariant-loop : goal.invariant-loop
invariant-loop l =
    (l.out.items ≡ l.initial.out.items ++ gap (length l.initial.out.items) l.counter)
    × (length l.out.items ≡ l.counter)
