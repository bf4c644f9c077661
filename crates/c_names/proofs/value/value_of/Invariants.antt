use Rattle.std.proofs.Common.{◌≡◌, [], length}
use Rattle.c_names.specs.Values.{value_from}
use Rattle.c_names.proofs.value.value_of.Given as goal

abbrev pub invariant-loop-rest : goal.invariant-loop-rest
invariant-loop-rest l =
    value_from l.fn.scope [] l.fn.forms ≡ value_from l.scope l.all l.rest

abbrev pub decreases-loop-rest : goal.decreases-loop-rest
decreases-loop-rest l = length l.rest
