use Rattle.std.proofs.Common.{◌≡◌, ◌++◌, length}
use Rattle.c_sizes.proofs.shape.add_copies.Given as goal

abbrev pub invariant-loop-rest : goal.invariant-loop-rest
invariant-loop-rest l = l.fn.forms ++ l.fn.from ≡ l.forms ++ l.rest

abbrev pub decreases-loop-rest : goal.decreases-loop-rest
decreases-loop-rest l = length l.rest
