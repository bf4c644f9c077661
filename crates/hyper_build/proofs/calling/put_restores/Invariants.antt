use Rattle.std.proofs.Common.{◌≡◌, ◌≤◌, length, drop}
use Rattle.hyper_build.specs.inside.Passing.{restoring}
use Rattle.hyper_build.specs.inside.Backward.{emission_of}
use Rattle.hyper_build.specs.inside.BackwardStatements.{chained}
use Rattle.hyper_build.proofs.calling.put_restores.Given as goal

abbrev pub invariant-loop-at : goal.invariant-loop-at
invariant-loop-at l = record {
  within : l.at ≤ length l.groups;
  done : emission_of l.emitting
      ≡ chained l.small (restoring l.frame) (drop l.at l.groups) (emission_of l.fn.emitting);
}

abbrev pub decreases-loop-at : goal.decreases-loop-at
decreases-loop-at l = l.at
