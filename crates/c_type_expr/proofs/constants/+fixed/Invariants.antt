use Rattle.std.proofs.Common.{◌≡◌, map, drop}
use Rattle.c_type_expr.specs.Blames.{first}
use Rattle.c_type_expr.specs.Constants.{all_fixed, not_fixed}
use Rattle.c_type_expr.proofs.constants.+fixed.Given as goal

abbrev pub invariant-none_fixed-loop-arg : goal.invariant-none_fixed-loop-arg
invariant-none_fixed-loop-arg l =
    all_fixed (map not_fixed l.args) l.scope
    ≡ first l.found (all_fixed (map not_fixed (drop l.arg-index l.args)) l.scope)
