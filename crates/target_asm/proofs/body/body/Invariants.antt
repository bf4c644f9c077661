use Rattle.std.proofs.Common.{◌≡◌, ◌+◌, ◌-◌, ◌*◌, ◌≤◌, length}
use Rattle.std.specs.Prelude.{All}
use Rattle.target_asm_spec.specs.inside.Blocks.{blocks_in}
use Rattle.target_asm.specs.inside.Taking.{with_blocks, seen}
use Rattle.target_asm.proofs.body.body.Given as goal

-- the blocks so far, and those that are still read, are all
abbrev pub invariant-loop-k : goal.invariant-loop-k
invariant-loop-k l =
    (with_blocks l.blocks.items (blocks_in (seen l.known) (262145 - l.k) l.k l.here l.next l.rest)
    ≡ blocks_in (seen l.known) 262145 0 0 l.line l.text)
    × (l.here ≤ 524293) × (l.next ≤ l.line + 196 * l.k)
    × (All (λ b. length b.insts.items ≤ 128) l.blocks.items) × (length l.blocks.items ≡ l.k)
