use Rattle.std.proofs.Common.{◌≡◌, length}
use Rattle.trips_messages.specs.Sights.{seat_of, seat_from}
use Rattle.trips_messages.proofs.sight.seat_of.Given as goal

abbrev pub invariant-loop-rest : goal.invariant-loop-rest
invariant-loop-rest l = seat_from l.offset l.sight l.rest ≡ seat_of l.offset l.tokens

abbrev pub decreases-loop-rest : goal.decreases-loop-rest
decreases-loop-rest l = length l.rest
