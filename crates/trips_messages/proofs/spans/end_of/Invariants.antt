use Rattle.std.proofs.Common.{◌≡◌, length}
use Rattle.trips_messages.specs.Spans.{end_of, end_from}
use Rattle.trips_messages.proofs.spans.end_of.Given as goal

abbrev pub invariant-loop-rest : goal.invariant-loop-rest
invariant-loop-rest l = end_from l.begin l.size l.depth l.rest ≡ end_of l.begin l.size l.tokens

abbrev pub decreases-loop-rest : goal.decreases-loop-rest
decreases-loop-rest l = length l.rest
