use Rattle.std.proofs.Common.{◌≡◌, length}
use Rattle.trips_messages.specs.Spans.{begin_of, begin_from}
use Rattle.trips_messages.proofs.spans.begin_of.Given as goal

abbrev pub invariant-loop-rest : goal.invariant-loop-rest
invariant-loop-rest l = begin_from l.offset l.walk l.rest ≡ begin_of l.offset l.tokens

abbrev pub decreases-loop-rest : goal.decreases-loop-rest
decreases-loop-rest l = length l.rest
