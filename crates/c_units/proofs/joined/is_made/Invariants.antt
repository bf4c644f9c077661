use Rattle.std.proofs.Common.{◌≡◌, length}
use Rattle.c_units.specs.Joined.{is_made}
use Rattle.c_units.proofs.joined.is_made.Given as goal

abbrev pub invariant-loop-rest : goal.invariant-loop-rest
invariant-loop-rest l = is_made l.fn.declarations l.fn.head ≡ is_made l.rest l.fn.head

abbrev pub decreases-loop-rest : goal.decreases-loop-rest
decreases-loop-rest l = length l.rest
