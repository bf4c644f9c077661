use Rattle.std.proofs.Common.{◌≡◌, drop}
use Rattle.block_image.specs.inside.HeaderReading.{first_bad}
use Rattle.block_image.proofs.header.bad_word.Given as goal

abbrev pub invariant-loop-i : goal.invariant-loop-i
invariant-loop-i l = first_bad l.info l.i (drop l.i l.words) ≡ first_bad l.info 0 l.words
