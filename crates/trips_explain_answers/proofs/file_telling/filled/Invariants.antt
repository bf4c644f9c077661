use Rattle.std.proofs.Common.{◌≡◌, ◌≤◌, ◌+◌, length}
use Rattle.trips_explain_answers.specs.FileTold as told
use Rattle.trips_explain_answers.proofs.file_telling.filled.Given as goal

abbrev pub invariant-loop-rest : goal.invariant-loop-rest
invariant-loop-rest l = record {
  total : l.count + told.filled l.rest ≡ told.filled l.slots;
  room : l.count + length l.rest ≤ length l.slots;
}

abbrev pub decreases-loop-rest : goal.decreases-loop-rest
decreases-loop-rest l = length l.rest
