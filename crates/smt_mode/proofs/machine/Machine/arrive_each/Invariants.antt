use Rattle.std.proofs.Common.{◌≡◌, drop}
use Rattle.smt_spec.specs.Turns.{all_do}
use Rattle.grid_cycle_spec.specs.Grid.{numbers_of}
use Rattle.grid_cycle_spec.specs.inside.Arrivals.{arrivals}
use Rattle.smt_mode.specs.Machines.{four_of, images_of}
use Rattle.smt_mode.specs.inside.Rooms.{Keeps}
use Rattle.smt_mode.proofs.machine.Machine.arrive_each.Given as goal

abbrev pub invariant-loop-i : goal.invariant-loop-i
invariant-loop-i g l = record {
  change : all_do
      (λ p. λ x. arrivals ((images_of l.initial.self) p) l.initial.self.budget (numbers_of x.window.frames) x)
      (drop l.i l.programs) (four_of l.self)
      ≡ all_do (λ p. λ x. arrivals ((images_of l.initial.self) p) l.initial.self.budget (numbers_of x.window.frames)
      x) l.programs (four_of l.initial.self);
  keeps : Keeps 4 l.initial.self l.self;
}
