use Rattle.std.proofs.Common.{◌≡◌, length}
use Rattle.trips_messages.specs.Nearest.{where_declared}
use Rattle.trips_messages.proofs.nearest.where_declared.Given as goal

abbrev pub invariant-loop-rest : goal.invariant-loop-rest
invariant-loop-rest l = where_declared l.word l.offset l.rest ≡ where_declared l.word l.offset l.tokens

abbrev pub decreases-loop-rest : goal.decreases-loop-rest
decreases-loop-rest l = length l.rest
