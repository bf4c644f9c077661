use Rattle.std.proofs.Common.{◌≡◌, ◌≤◌, ◌-◌}
use Rattle.hyper_build.specs.inside.Parts.{moved_size}
use Rattle.hyper_build.specs.inside.Passing.{parameter_cuts, parameter_moves}
use Rattle.hyper_build.proofs.counting.parameters_size.Given as goal

abbrev pub invariant-loop-at : goal.invariant-loop-at
invariant-loop-at l = record {
  within : l.at ≤ l.params;
  done : l.blocks
      ≡ moved_size (parameter_cuts l.small) l.at (parameter_moves l.at (l.params - l.at));
}

abbrev pub decreases-loop-at : goal.decreases-loop-at
decreases-loop-at l = l.at
