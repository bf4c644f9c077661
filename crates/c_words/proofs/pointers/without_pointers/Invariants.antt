use Rattle.std.proofs.Common.{◌≡◌, ◌++◌, length}
use Rattle.c_words.specs.Pointers.{without_pointers, pointed_from}
use Rattle.c_words.proofs.pointers.without_pointers.Given as goal

abbrev pub invariant-loop-rest : goal.invariant-loop-rest
invariant-loop-rest l = without_pointers l.fn.tokens ≡ l.out ++ pointed_from l.before l.places l.rest

abbrev pub decreases-loop-rest : goal.decreases-loop-rest
decreases-loop-rest l = length l.rest
