use Rattle.operand_net.specs.Places.{at}
use Rattle.operand_net.specs.inside.Rows.{taken}
use Rattle.operand_net.proofs.Frames.{Going}
use Rattle.operand_net.proofs.mesh.Mesh.tick_frames.Given as goal

abbrev pub invariant-loop-i : goal.invariant-loop-i
invariant-loop-i g l =
    Going g.W.Weather.next g.W.Weather.follows l.order (at l.initial.self) l.initial.weather
    l.i (taken l.links.nodes) (at l.self) l.weather
