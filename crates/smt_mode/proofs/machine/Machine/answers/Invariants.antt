use Rattle.std.proofs.Common.{◌≡◌}
use Rattle.grid_cycle_spec.specs.Choosing.{each}
use Rattle.smt_spec.specs.Parts.{data_turn_of}
use Rattle.smt_mode.specs.Machines.{four_of, images_of}
use Rattle.smt_mode.specs.inside.Rooms.{Keeps}
use Rattle.smt_mode.proofs.machine.Machine.answers.Given as goal

abbrev pub invariant-loop-tile : goal.invariant-loop-tile
invariant-loop-tile g l = record {
  change : four_of l.self ≡ each (data_turn_of (images_of l.initial.self) l.initial.self.budget l.programs) l.tile
      (four_of l.initial.self);
  keeps : Keeps 4 l.initial.self l.self;
}
