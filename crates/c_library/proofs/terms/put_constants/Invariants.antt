use Rattle.std.proofs.Common.{◌≡◌, ◌++◌, length}
use Rattle.c_library.specs.Terms.{constants}
use Rattle.c_library.proofs.terms.put_constants.Given as goal

abbrev pub invariant-loop-rest : goal.invariant-loop-rest
invariant-loop-rest l = l.fn.forms ++ constants l.fn.values ≡ l.forms ++ constants l.rest

abbrev pub decreases-loop-rest : goal.decreases-loop-rest
decreases-loop-rest l = length l.rest
