use Rattle.std.proofs.Common.{◌≡◌, length}
use Rattle.c_units.specs.Designators.{beginning, run}
use Rattle.c_units.proofs.designators.plain.Given as goal

abbrev pub invariant-loop-rest : goal.invariant-loop-rest
invariant-loop-rest l = run beginning l.fn.tokens ≡ run l.state l.rest

abbrev pub decreases-loop-rest : goal.decreases-loop-rest
decreases-loop-rest l = length l.rest
