use Rattle.std.proofs.Common.{◌≡◌, length}
use Rattle.c_words.specs.Unworded.{has_no_words}
use Rattle.c_words.proofs.pass.has_no_words.Given as goal

abbrev pub invariant-loop-rest : goal.invariant-loop-rest
invariant-loop-rest l = has_no_words l.fn.tokens ≡ has_no_words l.rest

abbrev pub decreases-loop-rest : goal.decreases-loop-rest
decreases-loop-rest l = length l.rest
