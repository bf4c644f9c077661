use Rattle.std.proofs.Common.{◌≡◌, ◌++◌, length}
use Rattle.predication.specs.inside.Environments.{distinct}
use Rattle.predication.proofs.joining.each_once.Given as goal

abbrev pub decreases-loop-rest : goal.decreases-loop-rest
decreases-loop-rest l = length l.rest

abbrev pub invariant-loop-rest : goal.invariant-loop-rest
invariant-loop-rest l = l.once ++ distinct l.rest ≡ distinct l.registers
