use Rattle.std.proofs.Common.{◌≡◌, ◌≤◌, length, drop}
use Rattle.hyper_build.specs.inside.Passing.{argument_cuts, argument_moves}
use Rattle.hyper_build.specs.inside.Backward.{emission_of}
use Rattle.hyper_build.specs.inside.BackwardStatements.{moving}
use Rattle.hyper_build.proofs.calling.put_arguments.Given as goal

abbrev pub invariant-loop-at : goal.invariant-loop-at
invariant-loop-at l = record {
  within : l.at ≤ length l.args;
  done : emission_of l.emitting
      ≡ moving (argument_cuts l.small) l.at (argument_moves l.at (drop l.at l.args))
      (emission_of l.fn.emitting);
}

abbrev pub decreases-loop-at : goal.decreases-loop-at
decreases-loop-at l = l.at
