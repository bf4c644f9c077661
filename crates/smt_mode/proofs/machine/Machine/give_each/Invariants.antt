use Rattle.std.proofs.Common.{◌≡◌, drop, ℕ, List}
use Rattle.smt_spec.specs.Turns.{all_do}
use Rattle.smt_spec.specs.Parts.{gives}
use Rattle.smt_mode.specs.Machines.{four_of}
use Rattle.smt_mode.specs.inside.Rooms.{Keeps}
use Rattle.smt_mode.specs.inside.Marked.{AreMarked}
use Rattle.smt_mode.proofs.machine.Machine.give_each.Given as goal

abbrev pub invariant-loop-i : goal.invariant-loop-i
invariant-loop-i g l = record {
  change : all_do (λ p. gives l.tile p) (drop l.i l.programs) (four_of l.self)
      ≡ all_do (λ p. gives l.tile p) l.programs (four_of l.initial.self);
  keeps : Keeps 4 l.initial.self l.self;
  marks : (marks : List ℕ) → AreMarked l.initial.self marks → AreMarked l.self marks;
}
