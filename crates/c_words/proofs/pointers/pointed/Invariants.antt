use Rattle.std.proofs.Common.{◌≡◌, length}
use Rattle.c_words.specs.Pointers.{pointed}
use Rattle.c_words.proofs.pointers.pointed.Given as goal

abbrev pub invariant-loop-rest : goal.invariant-loop-rest
invariant-loop-rest l = pointed l.fn.tokens ≡ pointed l.rest

abbrev pub decreases-loop-rest : goal.decreases-loop-rest
decreases-loop-rest l = length l.rest
