use Rattle.std.proofs.Common.{◌≡◌, ◌≤◌, ◌*◌, take}
use Rattle.trips_explain_answers.specs.FileTold.{instructions_in}
use Rattle.trips_explain_answers.proofs.file_telling.instructions_in.Given as goal

abbrev pub invariant-loop-number : goal.invariant-loop-number
invariant-loop-number l = record {
  total : l.sum ≡ instructions_in (take l.number l.image.blocks);
  few : l.sum ≤ 128 * l.number;
}
