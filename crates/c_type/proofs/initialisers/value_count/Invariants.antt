use Rattle.std.proofs.Common.{◌≡◌, ◌+◌, length, drop}
use Rattle.c_type.specs.FileScopes.{all_values}
use Rattle.c_type.proofs.initialisers.value_count.Given as goal

abbrev pub invariant-loop-list : goal.invariant-loop-list
invariant-loop-list l = length (all_values l.init) ≡ l.count + length (all_values (drop l.list-index l.init))
