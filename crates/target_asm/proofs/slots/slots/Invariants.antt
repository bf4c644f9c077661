use Rattle.std.proofs.Common.{◌≡◌, ◌+◌, ◌-◌, ◌≤◌, length}
use Rattle.target_asm_spec.specs.inside.Blocks.{slots_in}
use Rattle.target_asm.specs.inside.Taking.{with_front, seen}
use Rattle.target_asm.proofs.slots.slots.Given as goal

-- the slots so far, and those that are still read, are all
abbrev pub invariant-loop-turn : goal.invariant-loop-turn
invariant-loop-turn l =
    (length l.out.items ≤ 128)
    × (with_front l.out.items (slots_in (seen l.known) l.here (129 - l.turn) (length l.out.items)
    (l.line + l.turn) l.rest)
    ≡ slots_in (seen l.known) l.here 129 0 l.line l.text)
