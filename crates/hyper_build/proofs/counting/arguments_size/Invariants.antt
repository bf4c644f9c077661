use Rattle.std.proofs.Common.{◌≡◌, ◌≤◌, length, drop}
use Rattle.hyper_build.specs.inside.Parts.{moved_size}
use Rattle.hyper_build.specs.inside.Passing.{argument_cuts, argument_moves}
use Rattle.hyper_build.proofs.counting.arguments_size.Given as goal

abbrev pub invariant-loop-at : goal.invariant-loop-at
invariant-loop-at l = record {
  within : l.at ≤ length l.args;
  done : l.blocks
      ≡ moved_size (argument_cuts l.small) l.at (argument_moves l.at (drop l.at l.args));
}

abbrev pub decreases-loop-at : goal.decreases-loop-at
decreases-loop-at l = l.at
