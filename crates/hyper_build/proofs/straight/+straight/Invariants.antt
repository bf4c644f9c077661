use Rattle.std.proofs.Common.{◌≡◌, ◌≤◌, length, drop}
use Rattle.ir_forms.specs.inside.FlatViews.{code_of}
use Rattle.hyper_build.specs.inside.BackwardItems as code
use Rattle.hyper_build.proofs.straight.+straight.Given as goal

abbrev pub invariant-is_straight-loop-at : goal.invariant-is_straight-loop-at
invariant-is_straight-loop-at l = record {
  within : l.at ≤ length l.stmts;
  done : l.all ≡ code.is_straight (code_of (drop l.at l.stmts));
}

abbrev pub decreases-is_straight-loop-at : goal.decreases-is_straight-loop-at
decreases-is_straight-loop-at l = l.at
