use Rattle.std.proofs.Common.{◌≡◌, take, map}
use Rattle.block_image.specs.inside.HeaderReading.{write_at}
use Rattle.block_image.proofs.header.add_writes.Given as goal

abbrev pub invariant-loop-i : goal.invariant-loop-i
invariant-loop-i l = l.writes.items ≡ map write_at (take l.i l.words)
