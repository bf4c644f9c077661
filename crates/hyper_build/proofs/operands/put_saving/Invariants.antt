use Rattle.std.proofs.Common.{◌≡◌, ◌≤◌, length, drop}
use Rattle.hyper_build.specs.inside.Passing as passing
use Rattle.hyper_build.specs.inside.Emitted.{rest_of}
use Rattle.hyper_build.proofs.operands.put_saving.Given as goal

abbrev pub invariant-loop-at : goal.invariant-loop-at
invariant-loop-at l = record {
  within : l.at ≤ length l.group;
  done : rest_of l.rest ≡ passing.saving l.frame (drop l.at l.group) (rest_of l.fn.rest);
}

abbrev pub decreases-loop-at : goal.decreases-loop-at
decreases-loop-at l = l.at
