use Rattle.std.proofs.Common.{arith}
use Rattle.smt_mode.proofs.StartOfFour.{come_begun, images_begun, machine_begun, ready_begun}
use Rattle.smt_mode.proofs.made.machine_of.Goals as goal

pub returns-clause-begun : goal.returns-clause-begun
returns-clause-begun g c =
    machine_begun c.args.budget g.W.Weather.next g.W.Weather.follows c.args.weather c.args.started
    c.in_ok-programs.programs.items c.in_ok-programs.ensures.begun c.in_ok-programs.ensures.four

pub returns-clause-images : goal.returns-clause-images
returns-clause-images g c =
    images_begun c.args.budget c.args.started c.in_ok-programs.programs.items c.in_ok-programs.ensures.begun

pub returns-clause-engine : goal.returns-clause-engine
returns-clause-engine g c = record {
  ready = ready_begun c.args.budget c.args.started c.in_ok-programs.programs.items c.in_ok-programs.ensures.begun
      c.in_ok-programs.ensures.four;
  small = omega arith;
  come = come_begun c.args.budget g.W.Weather.next g.W.Weather.follows c.args.weather c.args.started
      c.in_ok-programs.programs.items c.in_ok-programs.ensures.begun c.in_ok-programs.ensures.four;
}
