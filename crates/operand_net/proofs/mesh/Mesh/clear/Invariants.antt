use Rattle.std.proofs.Common.{◌-◌}
use Rattle.operand_net.proofs.Places.{Clearing}
use Rattle.operand_net.proofs.mesh.Mesh.clear.Given as goal

abbrev pub invariant-loop-p : goal.invariant-loop-p
invariant-loop-p l = Clearing l.frame l.initial.self-inside.stands l.p l.self-inside.stands

abbrev pub decreases-loop-p : goal.decreases-loop-p
decreases-loop-p l = 320 - l.p
