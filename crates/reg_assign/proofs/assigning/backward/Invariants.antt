use Rattle.std.proofs.Common.{◌≡◌, ◌≤◌, length, drop, map}
use Rattle.ir_forms.specs.inside.FlatViews.{function_of}
use Rattle.reg_assign.specs.inside.Pass.{lists_backward}
use Rattle.reg_assign.proofs.assigning.backward.Given as goal

abbrev pub invariant-loop-at : goal.invariant-loop-at
invariant-loop-at l = record {
  within : l.at ≤ length l.functions;
  written : l.lists ≡ lists_backward (map function_of (drop l.at l.functions));
}

abbrev pub decreases-loop-at : goal.decreases-loop-at
decreases-loop-at l = l.at
