use Rattle.std.proofs.Common.{◌≡◌, length}
use Rattle.c_sizes.specs.Sized.{is_sized}
use Rattle.c_sizes.proofs.unit.has_no_sizeof.Given as goal

abbrev pub invariant-loop-rest : goal.invariant-loop-rest
invariant-loop-rest l = is_sized l.fn.tokens ≡ is_sized l.rest

abbrev pub decreases-loop-rest : goal.decreases-loop-rest
decreases-loop-rest l = length l.rest
