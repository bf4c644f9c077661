use Rattle.std.proofs.Common.{◌≡◌, drop}
use Rattle.smt_spec.specs.Turns.{all_do}
use Rattle.grid_cycle_spec.specs.Ends.{ends}
use Rattle.smt_mode.specs.Machines.{four_of, images_of}
use Rattle.smt_mode.specs.inside.Rooms.{Keeps}
use Rattle.smt_mode.proofs.machine.Machine.end_each.Given as goal

abbrev pub invariant-loop-i : goal.invariant-loop-i
invariant-loop-i g l = record {
  change : all_do (λ p. ends ((images_of l.initial.self) p) l.initial.self.budget) (drop l.i l.programs)
      (four_of l.self)
      ≡ all_do (λ p. ends ((images_of l.initial.self) p) l.initial.self.budget) l.programs (four_of l.initial.self);
  keeps : Keeps 0 l.initial.self l.self;
}
