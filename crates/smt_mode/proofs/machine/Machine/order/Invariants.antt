use Rattle.std.proofs.Common.{◌≡◌, ◌*◌, ◌≤◌, ◌++◌, drop, length, take}
use Rattle.std.specs.Prelude.{All}
use Rattle.smt_spec.specs.Programs as shared
use Rattle.smt_mode.specs.Machines.{four_of}
use Rattle.smt_mode.specs.inside.Rooms.{AreApart}
use Rattle.smt_mode.proofs.machine.Machine.order.Given as goal

abbrev pub invariant-loop-i : goal.invariant-loop-i
invariant-loop-i g l = record {
  value : l.order.items ++ shared.order (four_of l.self) (drop l.i l.programs)
      ≡ shared.order (four_of l.self) l.programs;
  size : length l.order.items ≤ 8 * l.i;
  apart : All (AreApart l.self) (take l.i l.programs);
}
