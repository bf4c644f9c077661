use Rattle.std.proofs.Common.{◌≡◌}
use Rattle.grid_cycle_spec.specs.Choosing.{each}
use Rattle.smt_spec.specs.Parts.{bank_turn_of}
use Rattle.smt_mode.specs.Machines.{four_of, images_of}
use Rattle.smt_mode.specs.inside.Rooms.{Keeps}
use Rattle.smt_mode.proofs.machine.Machine.reads.Given as goal

abbrev pub invariant-loop-bank : goal.invariant-loop-bank
invariant-loop-bank g l = record {
  change : four_of l.self ≡ each (bank_turn_of (images_of l.initial.self) l.initial.self.budget l.programs) l.bank
      (four_of l.initial.self);
  keeps : Keeps 4 l.initial.self l.self;
}
