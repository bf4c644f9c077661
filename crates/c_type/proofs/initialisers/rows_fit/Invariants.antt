use Rattle.std.proofs.Common.{◌≡◌, drop}
use Rattle.c_type.specs.Units.{rows_fit}
use Rattle.c_type.proofs.initialisers.rows_fit.Given as goal

abbrev pub invariant-loop-list : goal.invariant-loop-list
invariant-loop-list l = rows_fit l.length l.init ≡ rows_fit l.length (drop l.list-index l.init)
