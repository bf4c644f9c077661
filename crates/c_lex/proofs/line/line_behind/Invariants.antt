use Rattle.std.proofs.Common.{◌≡◌, ◌≤◌, ◌+◌, length}
use Rattle.c_lex.specs.Bytes.{feeds}
use Rattle.c_lex.proofs.line.line_behind.Given as goal

abbrev pub invariant-loop-rest : goal.invariant-loop-rest
invariant-loop-rest l = record {
  ahead : l.number + feeds l.rest ≡ 1 + feeds l.before;
  room : l.number + length l.rest ≤ 1 + length l.before;
}

abbrev pub decreases-loop-rest : goal.decreases-loop-rest
decreases-loop-rest l = length l.rest
