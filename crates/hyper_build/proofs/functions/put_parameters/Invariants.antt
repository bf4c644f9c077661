use Rattle.std.proofs.Common.{◌≡◌, ◌≤◌, ◌-◌}
use Rattle.hyper_build.specs.inside.Passing.{parameter_cuts, parameter_moves}
use Rattle.hyper_build.specs.inside.Backward.{emission_of}
use Rattle.hyper_build.specs.inside.BackwardStatements.{moving}
use Rattle.hyper_build.proofs.functions.put_parameters.Given as goal

abbrev pub invariant-loop-at : goal.invariant-loop-at
invariant-loop-at l = record {
  within : l.at ≤ l.params;
  done : emission_of l.emitting
      ≡ moving (parameter_cuts l.small) l.at (parameter_moves l.at (l.params - l.at))
      (emission_of l.fn.emitting);
}

abbrev pub decreases-loop-at : goal.decreases-loop-at
decreases-loop-at l = l.at
