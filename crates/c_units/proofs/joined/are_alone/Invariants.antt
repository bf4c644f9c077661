use Rattle.std.proofs.Common.{◌≡◌, length}
use Rattle.c_units.specs.Joined.{are_alone}
use Rattle.c_units.proofs.joined.are_alone.Given as goal

abbrev pub invariant-loop-rest : goal.invariant-loop-rest
invariant-loop-rest l = are_alone l.fn.all l.fn.declarations ≡ are_alone l.fn.all l.rest

abbrev pub decreases-loop-rest : goal.decreases-loop-rest
decreases-loop-rest l = length l.rest
