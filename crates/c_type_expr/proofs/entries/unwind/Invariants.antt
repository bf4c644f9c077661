use Rattle.std.proofs.Common.{◌≡◌, take, reverse, length}
use Rattle.c_type_expr.specs.inside.Chains.{Kept}
use Rattle.c_type_expr.proofs.entries.unwind.Given as goal

abbrev pub invariant-loop-entries : goal.invariant-loop-entries
invariant-loop-entries l = record {
  kept : Kept (reverse l.entries.items) l.heads;
  cut : take l.start l.entries.items ≡ take l.start l.fn.entries.items;
}

abbrev pub decreases-loop-entries : goal.decreases-loop-entries
decreases-loop-entries l = length l.entries.items
