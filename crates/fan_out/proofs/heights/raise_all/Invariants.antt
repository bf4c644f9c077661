use Rattle.std.proofs.Common.{◌≡◌, ◌≤◌, length}
use Rattle.fan_out.specs.inside.Heights.{risen, risen_by}
use Rattle.fan_out.proofs.heights.raise_all.Given as goal

abbrev pub invariant-loop-left : goal.invariant-loop-left
invariant-loop-left l = record {
  within : l.left ≤ length l.wires;
  risen : risen l.wires l.left l.heights ≡ risen_by l.wires l.fn.heights;
}

abbrev pub decreases-loop-left : goal.decreases-loop-left
decreases-loop-left l = l.left
