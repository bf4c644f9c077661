use Rattle.std.proofs.Common.{◌≡◌, ◌≤◌, ◌<◌, ◌++◌, drop, length}
use Rattle.std.specs.Prelude.{All}
use Rattle.smt_spec.specs.Cycles.{acting, has_gone, those}
use Rattle.smt_mode.specs.Machines.{four_of}
use Rattle.smt_mode.proofs.machine.Machine.acting.Given as goal

abbrev pub invariant-loop-i : goal.invariant-loop-i
invariant-loop-i g l = record {
  value : l.programs.items ++ those (λ w. has_gone w.over) (four_of l.self) (drop l.i l.going)
      ≡ acting l.going (four_of l.self);
  size : length l.programs.items ≤ l.i;
  within : All (λ p. p < 4) l.programs.items;
}
