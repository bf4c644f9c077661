use Rattle.std.proofs.Common.{◌≡◌, ◌≤◌, length, drop, map}
use Rattle.ir_forms.specs.inside.FlatViews.{function_of}
use Rattle.hyper_build.specs.inside.Backward.{emission_of}
use Rattle.hyper_build.specs.inside.BackwardProgram.{functions_out}
use Rattle.hyper_build.proofs.functions.put_functions.Given as goal

abbrev pub invariant-loop-at : goal.invariant-loop-at
invariant-loop-at l = record {
  within : l.at ≤ length l.functions;
  done : emission_of l.emitting
      ≡ functions_out l.end l.site (map function_of (drop l.at l.functions))
      (emission_of l.fn.emitting);
}

abbrev pub decreases-loop-at : goal.decreases-loop-at
decreases-loop-at l = l.at
