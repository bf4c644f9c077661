use Rattle.std.proofs.Common.{◌≡◌, ◌≤◌, ◌+◌, ◌*◌, ◌-◌, length}
use Rattle.block_image.specs.inside.ImageReading.{blocks_at, with_blocks}
use Rattle.block_image.proofs.container.blocks.Given as goal
use Rattle.trips_isa.specs.Limits.{most_chunks}

abbrev pub invariant-loop-k : goal.invariant-loop-k
invariant-loop-k l =
    (l.total ≤ most_chunks)
    × (length l.blocks.items ≡ l.k)
    × (with_blocks l.blocks.items
    (blocks_at (l.count - l.k) l.total (l.at + 128 * l.total) l.bytes) ≡ blocks_at l.count 0 l.at
    l.bytes)
