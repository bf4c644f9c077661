use Rattle.std.proofs.Common.{◌≡◌, ◌++◌, length, drop}
use Rattle.c_type.specs.inside.Units.{filled_rows}
use Rattle.c_type.specs.FileScopes.{all_values}
use Rattle.c_type.proofs.initialisers.whole_rows.Given as goal

abbrev pub invariant-loop-list : goal.invariant-loop-list
invariant-loop-list l = record {
  so_far : filled_rows l.length l.init l.words ≡ l.found ++ filled_rows l.length (drop l.list-index l.init) l.rest;
  as_many : length l.rest ≡ length (all_values (drop l.list-index l.init));
}
