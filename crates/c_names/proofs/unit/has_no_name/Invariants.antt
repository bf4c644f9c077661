use Rattle.std.proofs.Common.{◌≡◌, length}
use Rattle.c_names.specs.Named.{has_no_name}
use Rattle.c_names.proofs.unit.has_no_name.Given as goal

abbrev pub invariant-loop-rest : goal.invariant-loop-rest
invariant-loop-rest l =
    has_no_name l.fn.tokens ≡ has_no_name l.rest

abbrev pub decreases-loop-rest : goal.decreases-loop-rest
decreases-loop-rest l = length l.rest
