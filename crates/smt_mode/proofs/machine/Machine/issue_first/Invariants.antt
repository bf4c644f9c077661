use Rattle.std.proofs.Common.{◌≡◌, drop, slice_index_or}
use Rattle.grid_cycle_spec.specs.Units.{issues}
use Rattle.smt_spec.specs.Parts.{has_ready}
use Rattle.smt_spec.specs.Turns.{first_does}
use Rattle.smt_mode.specs.Machines.{four_of, images_of}
use Rattle.smt_mode.specs.inside.Marked.{AreMarked}
use Rattle.smt_mode.specs.inside.Rooms.{Keeps}
use Rattle.smt_mode.proofs.machine.Machine.issue_first.Given as goal

abbrev pub invariant-loop-i : goal.invariant-loop-i
invariant-loop-i g l = record {
  change : first_does (has_ready (images_of l.initial.self) l.initial.self.budget l.tile)
      (λ p. issues (images_of l.initial.self p) l.initial.self.budget l.tile) (drop l.i l.programs) (four_of l.self)
      ≡ first_does (has_ready (images_of l.initial.self) l.initial.self.budget l.tile)
      (λ p. issues (images_of l.initial.self p) l.initial.self.budget l.tile) l.programs (four_of l.initial.self);
  keeps : Keeps 4 l.initial.self l.self;
  marked : AreMarked l.self l.marks;
  free : slice_index_or l.self.units l.tile 0 ≡ 0;
}
