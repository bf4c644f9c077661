use Rattle.std.proofs.Common.{◌≡◌, length}
use Rattle.c_words.specs.Ordered.{goes_on}
use Rattle.c_words.proofs.ordered.goes_on.Given as goal

abbrev pub invariant-loop-rest : goal.invariant-loop-rest
invariant-loop-rest l = goes_on l.fn.first.form l.fn.words ≡ goes_on l.before.form l.rest

abbrev pub decreases-loop-rest : goal.decreases-loop-rest
decreases-loop-rest l = length l.rest
