use Rattle.std.proofs.Common.{◌≡◌, length}
use Rattle.c_units.specs.Braces.{has_char}
use Rattle.c_units.proofs.braces.has_char.Given as goal

abbrev pub invariant-loop-rest : goal.invariant-loop-rest
invariant-loop-rest l = has_char l.fn.words ≡ has_char l.rest

abbrev pub decreases-loop-rest : goal.decreases-loop-rest
decreases-loop-rest l = length l.rest
