use Rattle.std.proofs.Common.{◌≡◌, length}
use Rattle.c_units.specs.Joined.{value_of}
use Rattle.c_units.proofs.joined.value_of.Given as goal

abbrev pub invariant-loop-rest : goal.invariant-loop-rest
invariant-loop-rest l = value_of l.fn.declarations l.fn.head ≡ value_of l.rest l.fn.head

abbrev pub decreases-loop-rest : goal.decreases-loop-rest
decreases-loop-rest l = length l.rest
