use Rattle.std.proofs.Common.{◌≡◌, ◌≤◌, length, drop}
use Rattle.ir_forms.specs.inside.FlatViews.{code_of}
use Rattle.hyper_build.specs.inside.Emitted.{rest_of}
use Rattle.hyper_build.specs.inside.BackwardItems as code
use Rattle.hyper_build.proofs.straight.+items.Given as goal

abbrev pub invariant-put_items-loop-at : goal.invariant-put_items-loop-at
invariant-put_items-loop-at l = record {
  within : l.at ≤ length l.stmts;
  done : rest_of l.rest
      ≡ code.items_before (code.straight_items l.arrays (code_of (drop l.at l.stmts)))
      (rest_of l.fn.rest);
}

abbrev pub decreases-put_items-loop-at : goal.decreases-put_items-loop-at
decreases-put_items-loop-at l = l.at
