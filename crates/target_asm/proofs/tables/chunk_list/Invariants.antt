use Rattle.std.proofs.Common.{◌≡◌, ◌*◌, ◌≤◌, take}
use Rattle.std.specs.List.{sum_by}
use Rattle.trips_isa.specs.Images.{chunks}
use Rattle.target_asm_spec.specs.inside.Whole.{chunks_from}
use Rattle.target_asm.proofs.tables.chunk_list.Given as goal

-- the chunks of the blocks so far, and the next one
abbrev pub invariant-loop-k : goal.invariant-loop-k
invariant-loop-k l =
    (l.list.items ≡ chunks_from 0 (take l.k l.blocks))
    × (l.here ≡ sum_by chunks (take l.k l.blocks)) × (l.here ≤ 5 * l.k)
