use Rattle.std.proofs.Common.{◌≡◌, take}
use Rattle.target_asm_spec.specs.inside.Chunks.{start_rows}
use Rattle.target_asm.proofs.tables.starts.Given as goal

-- the table of the blocks so far
abbrev pub invariant-loop-k : goal.invariant-loop-k
invariant-loop-k l = l.starts.items ≡ start_rows 0 (take l.k l.blocks)
