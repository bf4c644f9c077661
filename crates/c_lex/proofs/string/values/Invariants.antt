use Rattle.std.proofs.Common.{◌≡◌, ◌+◌, length}
use Rattle.c_lex.specs.inside.Strings.{values_from, behind}
use Rattle.c_lex.proofs.string.values.Given as goal

abbrev pub invariant-loop-rest : goal.invariant-loop-rest
invariant-loop-rest l = record {
  ahead : behind l.length l.name.items (values_from 0 l.rest) ≡ behind 0 l.fn.name.items (values_from 0 l.text);
  within : l.length + length l.rest ≡ length l.text;
}

abbrev pub decreases-loop-rest : goal.decreases-loop-rest
decreases-loop-rest l = length l.rest
