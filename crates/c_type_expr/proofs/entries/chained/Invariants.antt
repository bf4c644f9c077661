use Rattle.std.proofs.Common.{◌≡◌, length, take, reverse}
use Rattle.c_type_expr.specs.Scope.{bindings}
use Rattle.c_type_expr.specs.inside.Chains.{KeptIn}
use Rattle.c_type_expr.proofs.entries.chained.Given as goal

abbrev pub invariant-loop-i : goal.invariant-loop-i
invariant-loop-i l = record {
  kept : KeptIn l.count (reverse (take l.i l.entries)) l.heads.items;
  count : length l.heads.items ≡ l.count;
  same : bindings l.entries ≡ bindings l.fn.entries;
}
