use Rattle.std.proofs.Common.{◌≡◌, length}
use Rattle.trips_messages.specs.Words as words
use Rattle.trips_messages.proofs.words.has_point.Given as goal

abbrev pub invariant-loop-rest : goal.invariant-loop-rest
invariant-loop-rest l = words.has_point l.rest ≡ words.has_point l.word

abbrev pub decreases-loop-rest : goal.decreases-loop-rest
decreases-loop-rest l = length l.rest
