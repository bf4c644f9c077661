use Rattle.std.proofs.Common.{◌≡◌, [], length}
use Rattle.c_units.specs.Completed.{completed_from}
use Rattle.c_units.proofs.completed.each_completed.Given as goal

abbrev pub invariant-loop-rest : goal.invariant-loop-rest
invariant-loop-rest l = completed_from l.fn.all [] l.fn.declarations ≡ completed_from l.fn.all l.out l.rest

abbrev pub decreases-loop-rest : goal.decreases-loop-rest
decreases-loop-rest l = length l.rest
