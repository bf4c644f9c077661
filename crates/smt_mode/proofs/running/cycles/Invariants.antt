use Rattle.std.proofs.Common.{◌≡◌, ◌≤◌}
use Rattle.smt_mode.specs.Fours.{HasRan}
use Rattle.smt_mode.specs.Machines.{four_of, images_of}
use Rattle.smt_mode.specs.inside.Histories.{IsEngine}
use Rattle.smt_mode.proofs.running.cycles.Given as goal

abbrev pub invariant-loop-round : goal.invariant-loop-round
invariant-loop-round g l = record {
  engine : IsEngine g.W.Weather.next g.W.Weather.follows l.machine;
  ran : HasRan g.W.Weather.next g.W.Weather.follows (images_of l.initial.machine) l.initial.machine.budget
      (four_of l.initial.machine) (four_of l.machine);
  far : l.round ≤ l.machine.cycles;
  images : images_of l.machine ≡ images_of l.initial.machine;
  budget : l.machine.budget ≡ l.initial.machine.budget;
}
