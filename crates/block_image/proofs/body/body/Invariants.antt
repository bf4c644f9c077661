use Rattle.std.proofs.Common.{◌≡◌, ◌++◌, ◌+◌, ◌*◌, ◌-◌, length}
use Rattle.block_image.specs.Reading.{Slots}
use Rattle.block_image.specs.inside.Reading.{body_at, with_front}
use Rattle.block_image.proofs.body.body.Given as goal

abbrev pub invariant-loop-k : goal.invariant-loop-k
invariant-loop-k l = (front : Slots) × (l.out.items ≡ l.initial.out.items ++ front)
    × (length front ≡ 32 * l.k)
    × (with_front front (body_at (l.chunks - l.k) (l.at + 128 * l.k) l.bytes) ≡ body_at l.chunks
    l.at l.bytes)
