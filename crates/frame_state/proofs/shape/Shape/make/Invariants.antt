use Rattle.frame_state.proofs.WantFacts.{Noted}
use Rattle.frame_state.proofs.shape.Shape.make.Given as goal

abbrev pub invariant-loop-slot : goal.invariant-loop-slot
invariant-loop-slot l = Noted l.block l.shape l.slot
