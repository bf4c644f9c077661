use Rattle.std.proofs.Common.{◌≡◌, ◌≤◌, ◌+◌, length}
use Rattle.trips_messages.specs.Places.{start_from}
use Rattle.trips_messages.proofs.places.line_start.Given as goal

abbrev pub invariant-loop-rest : goal.invariant-loop-rest
invariant-loop-rest l = record {
  ahead : start_from l.at l.start l.rest ≡ start_from 0 0 l.bytes;
  behind : l.start ≤ l.at;
  room : l.at + length l.rest ≡ length l.bytes;
}

abbrev pub decreases-loop-rest : goal.decreases-loop-rest
decreases-loop-rest l = length l.rest
