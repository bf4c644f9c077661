use Rattle.std.proofs.Common.{◌≡◌, ◌++◌, length}
use Rattle.c_units.proofs.objects.tokens_copied.Given as goal

abbrev pub invariant-loop-rest : goal.invariant-loop-rest
invariant-loop-rest l = l.fn.tokens ≡ l.out ++ l.rest

abbrev pub decreases-loop-rest : goal.decreases-loop-rest
decreases-loop-rest l = length l.rest
