use Rattle.std.proofs.Common.{◌≡◌, ◌++◌, length}
use Rattle.c_library.specs.Joined.{joined}
use Rattle.c_library.proofs.joins.joined.Given as goal

abbrev pub invariant-loop-rest : goal.invariant-loop-rest
invariant-loop-rest l = joined l.fn.tokens ≡ l.out ++ joined l.rest

abbrev pub decreases-loop-rest : goal.decreases-loop-rest
decreases-loop-rest l = length l.rest
