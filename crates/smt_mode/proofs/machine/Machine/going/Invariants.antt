use Rattle.std.proofs.Common.{◌≡◌, ◌≤◌, ◌<◌, ◌++◌, drop, length}
use Rattle.std.specs.Prelude.{All}
use Rattle.smt_spec.specs.Cycles.{goes_on, going, those}
use Rattle.smt_spec.specs.Turns.{all_four}
use Rattle.smt_mode.specs.Machines.{four_of}
use Rattle.smt_mode.proofs.machine.Machine.going.Given as goal

abbrev pub invariant-loop-program : goal.invariant-loop-program
invariant-loop-program g l = record {
  value : l.programs.items ++ those (goes_on l.self.budget) (four_of l.self) (drop l.program all_four)
      ≡ going l.self.budget (four_of l.self);
  size : length l.programs.items ≤ l.program;
  within : All (λ p. p < 4) l.programs.items;
}
