use Rattle.std.proofs.Common.{◌≡◌, length}
use Rattle.c_sizes.specs.Counts.{behind_size}
use Rattle.c_sizes.proofs.size.behind_size.Given as goal

abbrev pub invariant-loop-rest : goal.invariant-loop-rest
invariant-loop-rest l = behind_size l.fn.tokens ≡ behind_size l.rest

abbrev pub decreases-loop-rest : goal.decreases-loop-rest
decreases-loop-rest l = length l.rest
