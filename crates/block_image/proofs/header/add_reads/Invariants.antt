use Rattle.std.proofs.Common.{◌≡◌, take, map}
use Rattle.block_image.specs.inside.HeaderReading.{read_at}
use Rattle.block_image.proofs.header.add_reads.Given as goal

abbrev pub invariant-loop-i : goal.invariant-loop-i
invariant-loop-i l = l.reads.items ≡ map read_at (take l.i l.words)
