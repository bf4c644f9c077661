use Rattle.std.proofs.Common.{◌≡◌, length}
use Rattle.c_lex.specs.Bytes.{has_end}
use Rattle.c_lex.specs.inside.Spaces.{spaces}
use Rattle.c_lex.proofs.white.has_end.Given as goal

abbrev pub invariant-loop-rest : goal.invariant-loop-rest
invariant-loop-rest l = has_end l.last (spaces l.rest) ≡ has_end 0 (spaces l.text)

abbrev pub decreases-loop-rest : goal.decreases-loop-rest
decreases-loop-rest l = length l.rest
