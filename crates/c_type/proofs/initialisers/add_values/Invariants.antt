use Rattle.std.proofs.Common.{◌≡◌, ◌++◌, map, take, drop}
use Rattle.c_type_expr.specs.Constants.{constant_at}
use Rattle.c_type.specs.inside.Units.{values_fault}
use Rattle.c_type.proofs.initialisers.add_values.Given as goal

abbrev pub invariant-loop-e : goal.invariant-loop-e
invariant-loop-e l = record {
  same_fault : values_fault l.list l.names ≡ values_fault (drop l.e-index l.list) l.names;
  so_far : l.fn.found ++ map (constant_at l.kind) (take l.e-index l.list) ≡ l.found;
}
