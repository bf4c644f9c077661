use Rattle.std.proofs.Common.{◌≡◌, drop}
use Rattle.smt_spec.specs.Turns.{first_does}
use Rattle.grid_cycle_spec.specs.DataTiles.{data_turn}
use Rattle.smt_spec.specs.Parts.{has_request}
use Rattle.smt_mode.specs.Machines.{four_of, images_of}
use Rattle.smt_mode.specs.inside.Rooms.{Keeps}
use Rattle.smt_mode.proofs.machine.Machine.data_turn.Given as goal

abbrev pub invariant-loop-i : goal.invariant-loop-i
invariant-loop-i g l = record {
  change : first_does (has_request l.tile)
      (λ p. data_turn ((images_of l.initial.self) p) l.initial.self.budget l.tile)
      (drop l.i l.programs) (four_of l.self)
      ≡ first_does (has_request l.tile) (λ p. data_turn ((images_of l.initial.self) p) l.initial.self.budget l.tile)
      l.programs (four_of l.initial.self);
  keeps : Keeps 4 l.initial.self l.self;
}
