use Rattle.std.proofs.Common.{◌≡◌, drop}
use Rattle.smt_spec.specs.Turns.{all_do}
use Rattle.smt_spec.specs.Cycles.{retires}
use Rattle.smt_mode.specs.Machines.{four_of}
use Rattle.smt_mode.specs.inside.Rooms.{Keeps}
use Rattle.smt_mode.proofs.machine.Machine.retire_each.Given as goal

abbrev pub invariant-loop-i : goal.invariant-loop-i
invariant-loop-i g l = record {
  change : all_do (λ p. retires l.initial.self.budget) (drop l.i l.programs) (four_of l.self)
      ≡ all_do (λ p. retires l.initial.self.budget) l.programs (four_of l.initial.self);
  keeps : Keeps 0 l.initial.self l.self;
}
