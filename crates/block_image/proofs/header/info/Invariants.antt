use Rattle.std.proofs.Common.{◌≡◌, ◌<◌, ◌^◌, drop}
use Rattle.block_image.specs.HeaderReading.{info_from}
use Rattle.block_image.proofs.header.info.Given as goal

abbrev pub invariant-loop-w : goal.invariant-loop-w
invariant-loop-w l = (info_from l.info (drop l.w-index l.words) ≡ info_from 0 l.words)
    × (l.info < 4 ^ l.w-index)
