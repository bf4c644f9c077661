-- Tokens and marks pulled side by side, both to the same depth. Own (docs/MACHINE.md, "Exceptions"):
-- marks are defined beside a table that is there; this is how a machine that has none comes to both.
use Rattle.std.specs.Prelude.{ℕ, zero, suc, List, slice_get}
use Rattle.trips_isa.specs.declared.block.Block.{Block}
use Rattle.trips_isa.specs.Places.{nodes_of}
use Rattle.trips_isa.specs.Blocks.{at_place, token_of}
use Rattle.trips_isa.specs.Faults.{node_fault}
use Rattle.trips_isa.specs.Marks.{mark_at, node_mark}

-- the mark of node x beside its token in an entry state, where it asks its producers at most k deep
-- for their tokens and their marks
abbrev pub marked_of : Block → List ℕ → List ℕ → ℕ → ℕ → ℕ
marked_of b regs mem zero x = 0
marked_of b regs mem (suc k) x = node_mark (slice_get (nodes_of b) x) (node_fault b x)
    (at_place b (token_of b regs mem k)) (mark_at (nodes_of b) (token_of b regs mem k)
    (marked_of b regs mem k)) (token_of b regs mem (suc k) x)
