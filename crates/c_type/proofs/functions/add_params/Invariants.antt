use Rattle.std.proofs.Common.{◌≡◌, length}
use Rattle.c_type.specs.States.{with_params}
use Rattle.c_type.proofs.functions.add_params.Given as goal

abbrev pub invariant-loop-param : goal.invariant-loop-param
invariant-loop-param l = with_params l.fn.params l.fn.state ≡ with_params l.rest l.state

abbrev pub decreases-loop-param : goal.decreases-loop-param
decreases-loop-param l = length l.rest
