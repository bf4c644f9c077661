use Rattle.std.proofs.Common.{◌≡◌, length}
use Rattle.trips_explain_endings.specs.Endings.{around, around_from}
use Rattle.trips_explain_endings.proofs.places.around.Given as goal

-- what is found behind those so far is found of all
abbrev pub invariant-loop-rest : goal.invariant-loop-rest
invariant-loop-rest l = around_from l.found l.offset l.rest ≡ around l.offset l.definitions

abbrev pub decreases-loop-rest : goal.decreases-loop-rest
decreases-loop-rest l = length l.rest
