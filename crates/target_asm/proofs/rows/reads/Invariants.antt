use Rattle.std.proofs.Common.{◌≡◌, ◌+◌, ◌-◌, length}
use Rattle.std.specs.Prelude.{codes}
use Rattle.target_asm_spec.specs.inside.Blocks.{lines_in, one_read}
use Rattle.target_asm.specs.inside.Taking.{with_front}
use Rattle.target_asm.proofs.rows.reads.Given as goal

-- the lines so far, and those that are still read, are all
abbrev pub invariant-loop-i : goal.invariant-loop-i
invariant-loop-i l =
    (length l.out.items ≡ l.i)
    × (with_front l.out.items (lines_in (codes "R[") one_read (33 - l.i) l.i (l.line + l.i) l.rest)
    ≡ lines_in (codes "R[") one_read 33 0 l.line l.text)
