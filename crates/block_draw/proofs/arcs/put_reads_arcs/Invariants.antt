use Rattle.std.proofs.Common.{◌≡◌, ◌++◌, take}
use Rattle.target_asm_spec.specs.Numbers.{numbered}
use Rattle.block_draw.specs.Arcs.{read_arcs}
use Rattle.block_draw.proofs.arcs.put_reads_arcs.Given as goal

-- those so far are written
abbrev pub invariant-loop-number : goal.invariant-loop-number
invariant-loop-number l = l.out.items ≡ l.initial.out.items ++ numbered read_arcs 0 (take l.number l.reads)
