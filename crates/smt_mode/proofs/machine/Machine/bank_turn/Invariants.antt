use Rattle.std.proofs.Common.{◌≡◌, drop}
use Rattle.smt_spec.specs.Turns.{first_does}
use Rattle.grid_cycle_spec.specs.Banks.{bank_turn}
use Rattle.smt_spec.specs.Parts.{has_read}
use Rattle.smt_mode.specs.Machines.{four_of, images_of}
use Rattle.smt_mode.specs.inside.Rooms.{Keeps}
use Rattle.smt_mode.proofs.machine.Machine.bank_turn.Given as goal

abbrev pub invariant-loop-i : goal.invariant-loop-i
invariant-loop-i g l = record {
  change : first_does (has_read (images_of l.initial.self) l.initial.self.budget l.bank)
      (λ p. bank_turn ((images_of l.initial.self) p) l.initial.self.budget l.bank)
      (drop l.i l.programs) (four_of l.self)
      ≡ first_does (has_read (images_of l.initial.self) l.initial.self.budget l.bank)
      (λ p. bank_turn ((images_of l.initial.self) p) l.initial.self.budget l.bank)
      l.programs (four_of l.initial.self);
  keeps : Keeps 4 l.initial.self l.self;
}
