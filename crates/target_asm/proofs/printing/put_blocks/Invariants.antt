use Rattle.std.proofs.Common.{◌≡◌, ◌++◌, take}
use Rattle.trips_isa.specs.Images.{chunk_of}
use Rattle.target_asm_spec.specs.Numbers.{numbered}
use Rattle.target_asm_spec.specs.inside.Chunks.{goal_in}
use Rattle.target_asm_spec.specs.Text.{block_text}
use Rattle.target_asm.proofs.printing.put_blocks.Given as goal

-- where the next block begins, and the blocks so far are written
abbrev pub invariant-loop-k : goal.invariant-loop-k
invariant-loop-k l = (l.here ≡ chunk_of l.blocks l.k)
    × (l.out.items ≡ l.initial.out.items ++ numbered
    (λ k b. block_text (goal_in l.starts) (chunk_of l.blocks k) k b) 0 (take l.k l.blocks))
