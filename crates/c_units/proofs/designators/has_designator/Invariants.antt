use Rattle.std.proofs.Common.{◌≡◌, length}
use Rattle.c_units.specs.Designators.{has_designator}
use Rattle.c_units.proofs.designators.has_designator.Given as goal

abbrev pub invariant-loop-rest : goal.invariant-loop-rest
invariant-loop-rest l = has_designator l.fn.tokens ≡ has_designator l.rest

abbrev pub decreases-loop-rest : goal.decreases-loop-rest
decreases-loop-rest l = length l.rest
