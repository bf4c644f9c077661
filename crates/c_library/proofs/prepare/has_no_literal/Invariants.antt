use Rattle.std.proofs.Common.{◌≡◌, length}
use Rattle.c_library.specs.Literals.{has_no_literal}
use Rattle.c_library.proofs.prepare.has_no_literal.Given as goal

abbrev pub invariant-loop-rest : goal.invariant-loop-rest
invariant-loop-rest l = has_no_literal l.fn.tokens ≡ has_no_literal l.rest

abbrev pub decreases-loop-rest : goal.decreases-loop-rest
decreases-loop-rest l = length l.rest
