use Rattle.std.proofs.Common.{◌≡◌, length}
use Rattle.c_units.specs.Completed.{is_open}
use Rattle.c_units.proofs.completed.is_open.Given as goal

abbrev pub invariant-loop-rest : goal.invariant-loop-rest
invariant-loop-rest l = is_open l.fn.head ≡ is_open l.rest

abbrev pub decreases-loop-rest : goal.decreases-loop-rest
decreases-loop-rest l = length l.rest
