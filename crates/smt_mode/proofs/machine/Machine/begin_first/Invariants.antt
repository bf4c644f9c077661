use Rattle.std.proofs.Common.{◌≡◌, drop, true}
use Rattle.smt_spec.specs.Turns.{first_does}
use Rattle.grid_cycle_spec.specs.Fetches.{begins}
use Rattle.smt_spec.specs.Parts.{may_begin}
use Rattle.smt_spec.specs.Programs.{is_idle}
use Rattle.smt_mode.specs.Machines.{four_of, images_of}
use Rattle.smt_mode.specs.inside.Rooms.{Keeps}
use Rattle.smt_mode.proofs.machine.Machine.begin_first.Given as goal

abbrev pub invariant-loop-i : goal.invariant-loop-i
invariant-loop-i g l = record {
  change : first_does (may_begin (images_of l.initial.self)) (λ p. begins ((images_of l.initial.self) p))
      (drop l.i l.programs) (four_of l.self)
      ≡ first_does (may_begin (images_of l.initial.self)) (λ p. begins ((images_of l.initial.self) p))
      l.programs (four_of l.initial.self);
  keeps : Keeps 4 l.initial.self l.self;
  idle : is_idle (four_of l.self) ≡ true;
}
