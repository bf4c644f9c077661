use Rattle.std.proofs.Common.{◌≡◌, length}
use Rattle.trips_messages.specs.Nearest.{nearest_by, nearest_from}
use Rattle.trips_messages.proofs.nearest.nearest_by.Given as goal

abbrev pub invariant-loop-rest : goal.invariant-loop-rest
invariant-loop-rest l =
    nearest_from l.reach l.word l.offset l.at l.best l.rest ≡ nearest_by l.reach l.word l.offset l.tokens

abbrev pub decreases-loop-rest : goal.decreases-loop-rest
decreases-loop-rest l = length l.rest
