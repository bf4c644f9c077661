use Rattle.std.proofs.Common.{◌≡◌, ◌++◌, length}
use Rattle.c_sizes.specs.Counts.{size}
use Rattle.c_sizes.proofs.size.add_size.Given as goal

abbrev pub invariant-loop-rest : goal.invariant-loop-rest
invariant-loop-rest l = l.fn.forms ++ size l.fn.tokens ≡ l.forms ++ size l.rest

abbrev pub decreases-loop-rest : goal.decreases-loop-rest
decreases-loop-rest l = length l.rest
