use Rattle.std.proofs.Common.{◌≡◌, ◌++◌, drop, map}
use Rattle.ir_forms.specs.inside.FlatViews.{function_of}
use Rattle.flat_lower.specs.inside.TreeViews.{func_of}
use Rattle.flat_lower.specs.inside.Statements.{lowered_from}
use Rattle.flat_lower.proofs.functions.lower_funcs.Given as goal

abbrev pub invariant-loop-f : goal.invariant-loop-f
invariant-loop-f l = record {
  place : l.n ≡ l.f-index;
  written : map function_of l.all ++ lowered_from l.globals l.main l.n
      (map func_of (drop l.f-index l.functions))
      ≡ lowered_from l.globals l.main 0 (map func_of l.functions);
}
