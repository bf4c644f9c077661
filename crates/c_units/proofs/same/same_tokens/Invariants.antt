use Rattle.std.proofs.Common.{◌≡◌, length}
use Rattle.c_units.specs.Same.{same_tokens}
use Rattle.c_units.proofs.same.same_tokens.Given as goal

abbrev pub invariant-loop-rest : goal.invariant-loop-rest
invariant-loop-rest l = same_tokens l.fn.a l.fn.b ≡ same_tokens l.rest l.other

abbrev pub decreases-loop-rest : goal.decreases-loop-rest
decreases-loop-rest l = length l.rest
