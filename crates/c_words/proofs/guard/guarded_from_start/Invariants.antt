use Rattle.std.proofs.Common.{◌≡◌, ◌++◌, length}
use Rattle.c_words.specs.Guards.{guarded_from, start}
use Rattle.c_words.proofs.guard.guarded_from_start.Given as goal

abbrev pub invariant-loop-rest : goal.invariant-loop-rest
invariant-loop-rest l = guarded_from start l.fn.tokens ≡ l.out ++ guarded_from l.guard l.rest

abbrev pub decreases-loop-rest : goal.decreases-loop-rest
decreases-loop-rest l = length l.rest
