use Rattle.std.proofs.Common.{◌≡◌, length}
use Rattle.c_sizes.specs.Widths.{are_words}
use Rattle.c_sizes.proofs.width.are_words.Given as goal

abbrev pub invariant-loop-rest : goal.invariant-loop-rest
invariant-loop-rest l = are_words l.fn.tokens ≡ are_words l.rest

abbrev pub decreases-loop-rest : goal.decreases-loop-rest
decreases-loop-rest l = length l.rest
