use Rattle.std.proofs.Common.{◌≡◌, length}
use Rattle.c_pre.specs.Plain.{has_no_directive}
use Rattle.c_pre.proofs.has_no_directive.Given as goal

abbrev pub invariant-loop-rest : goal.invariant-loop-rest
invariant-loop-rest l = has_no_directive l.fn.raw ≡ has_no_directive l.rest

abbrev pub decreases-loop-rest : goal.decreases-loop-rest
decreases-loop-rest l = length l.rest
