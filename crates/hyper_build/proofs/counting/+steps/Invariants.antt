use Rattle.std.proofs.Common.{◌≡◌, ◌≤◌, length, drop}
use Rattle.ir_forms.specs.inside.FlatFits as flat
use Rattle.ir_forms.specs.inside.FlatViews.{code_of}
use Rattle.hyper_build.proofs.counting.+steps.Given as goal

abbrev pub invariant-steps_of-loop-at : goal.invariant-steps_of-loop-at
invariant-steps_of-loop-at l = record {
  within : l.at ≤ length l.stmts;
  done : l.steps ≡ flat.steps_of (code_of (drop l.at l.stmts));
}

abbrev pub decreases-steps_of-loop-at : goal.decreases-steps_of-loop-at
decreases-steps_of-loop-at l = l.at
