use Rattle.std.proofs.Common.{◌≡◌, true, length}
use Rattle.c_type.specs.inside.LeftOut.{some_block}
use Rattle.c_type.specs.Programs.{items_after}
use Rattle.c_type.specs.inside.Programs.{items_fault}
use Rattle.c_type.specs.FileScopes.{empty_file}
use Rattle.c_type.proofs.program.items.Given as goal

abbrev pub invariant-loop-top : goal.invariant-loop-top
invariant-loop-top l = record {
  same_fault : items_fault l.table l.fn.tops empty_file ≡ items_fault l.table l.rest l.file;
  same_after : items_after l.table l.fn.tops empty_file ≡ items_after l.table l.rest l.file;
  some : some_block l.file.names ≡ true;
}

abbrev pub decreases-loop-top : goal.decreases-loop-top
decreases-loop-top l = length l.rest
