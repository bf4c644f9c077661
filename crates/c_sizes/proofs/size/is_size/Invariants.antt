use Rattle.std.proofs.Common.{◌≡◌, length}
use Rattle.c_sizes.specs.Counts.{is_size}
use Rattle.c_sizes.proofs.size.is_size.Given as goal

abbrev pub invariant-loop-rest : goal.invariant-loop-rest
invariant-loop-rest l = is_size l.fn.tokens ≡ is_size l.rest

abbrev pub decreases-loop-rest : goal.decreases-loop-rest
decreases-loop-rest l = length l.rest
