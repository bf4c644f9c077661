use Rattle.std.proofs.Common.{◌≡◌, ◌++◌, drop}
use Rattle.predication.proofs.joining.either.Given as goal

abbrev pub invariant-loop-register : goal.invariant-loop-register
invariant-loop-register l = l.registers ++ drop l.register-index l.no ≡ l.yes ++ l.no
