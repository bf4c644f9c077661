use Rattle.std.proofs.Common.{◌≡◌, ◌≤◌, ◌+◌, length}
use Rattle.c_lex.specs.Bytes.{still_empty}
use Rattle.c_lex.specs.inside.Spaces.{spaces, after_spaces}
use Rattle.c_lex.proofs.white.after_spaces.Given as goal

abbrev pub invariant-loop-rest : goal.invariant-loop-rest
invariant-loop-rest l = record {
  offsets : l.offset + length (spaces l.rest) ≡ l.initial.offset + length (spaces l.text);
  emptied : still_empty l.empty l.last (spaces l.rest) ≡ still_empty l.starts 0 (spaces l.text);
  behind : after_spaces l.rest ≡ after_spaces l.text;
  room : l.offset + length l.rest ≤ l.initial.offset + length l.text;
}

abbrev pub decreases-loop-rest : goal.decreases-loop-rest
decreases-loop-rest l = length l.rest
