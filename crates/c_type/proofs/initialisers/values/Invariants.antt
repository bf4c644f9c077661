use Rattle.std.proofs.Common.{◌≡◌, ◌++◌, map, drop}
use Rattle.c_type_expr.specs.Constants.{constant_at}
use Rattle.c_type.specs.inside.Units.{values_fault}
use Rattle.c_type.specs.FileScopes.{all_values}
use Rattle.c_type.proofs.initialisers.values.Given as goal

abbrev pub invariant-loop-list : goal.invariant-loop-list
invariant-loop-list l = record {
  same_fault : values_fault (all_values l.init) l.names
      ≡ values_fault (all_values (drop l.list-index l.init)) l.names;
  so_far : map (constant_at l.kind) (all_values l.init)
      ≡ l.found ++ map (constant_at l.kind) (all_values (drop l.list-index l.init));
}
