use Rattle.std.proofs.Common.{◌≡◌, [], ◌∷◌, drop}
use Rattle.c_type.specs.Programs.{definitions}
use Rattle.c_type.proofs.program.table.Given as goal

abbrev pub invariant-loop-top : goal.invariant-loop-top
invariant-loop-top l = definitions l.items 0 ([] ∷ []) ≡ definitions (drop l.top-index l.items) l.number l.table
