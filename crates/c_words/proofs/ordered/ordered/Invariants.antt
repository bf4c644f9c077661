use Rattle.std.proofs.Common.{◌≡◌, ◌++◌, length}
use Rattle.c_words.specs.Ordered.{ordered, ordered_from}
use Rattle.c_words.proofs.ordered.ordered.Given as goal

abbrev pub invariant-loop-rest : goal.invariant-loop-rest
invariant-loop-rest l = ordered l.fn.tokens ≡ l.out ++ ordered_from l.before l.places l.rest

abbrev pub decreases-loop-rest : goal.decreases-loop-rest
decreases-loop-rest l = length l.rest
