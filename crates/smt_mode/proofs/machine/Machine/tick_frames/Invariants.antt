use Rattle.std.proofs.Common.{◌≡◌}
use Rattle.operand_net.specs.inside.Rows.{taken}
use Rattle.operand_net.proofs.Frames.{Going}
use Rattle.smt_spec.specs.Programs.{mesh, travelled}
use Rattle.smt_mode.specs.Machines.{four_of}
use Rattle.smt_mode.specs.inside.Rooms.{Keeps}
use Rattle.smt_mode.proofs.machine.Machine.tick_frames.Given as goal

abbrev pub invariant-loop-i : goal.invariant-loop-i
invariant-loop-i g l = record {
  going : Going g.W.Weather.next g.W.Weather.follows l.order (mesh (four_of l.initial.self)) l.initial.self.weather
      l.i
      (taken l.links.nodes) (mesh (four_of l.self)) l.self.weather;
  rest : four_of l.self ≡ travelled (mesh (four_of l.self)) l.self.weather (four_of l.initial.self);
  keeps : Keeps 4 l.initial.self l.self;
}
