use Rattle.std.proofs.Common.{◌≡◌, length}
use Rattle.c_words.specs.Guards.{has_const}
use Rattle.c_words.proofs.guard.has_const.Given as goal

abbrev pub invariant-loop-rest : goal.invariant-loop-rest
invariant-loop-rest l = has_const l.fn.tokens ≡ has_const l.rest

abbrev pub decreases-loop-rest : goal.decreases-loop-rest
decreases-loop-rest l = length l.rest
