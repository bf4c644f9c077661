use Rattle.std.proofs.Common.{◌≡◌, ◌≤◌, length, drop}
use Rattle.ir_forms.specs.inside.FlatViews.{code_of}
use Rattle.hyper_build.specs.inside.Legs as legs
use Rattle.hyper_build.proofs.posts.+going.Given as goal

abbrev pub invariant-continues-loop-at : goal.invariant-continues-loop-at
invariant-continues-loop-at l = record {
  within : l.at ≤ length l.stmts;
  done : l.any ≡ legs.continues (code_of (drop l.at l.stmts));
}

abbrev pub decreases-continues-loop-at : goal.decreases-continues-loop-at
decreases-continues-loop-at l = l.at
