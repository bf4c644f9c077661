use Rattle.std.proofs.Common.{◌≡◌, ◌+◌, ◌≤◌, drop, length}
use Rattle.fan_out.specs.inside.Wires as spec
use Rattle.fan_out.proofs.fans.count_uses.Given as goal

abbrev pub invariant-loop-wire : goal.invariant-loop-wire
invariant-loop-wire l = record {
  few : l.count ≤ l.wire-index;
  total : l.count + length (spec.uses l.source (drop l.wire-index l.wires))
      ≡ length (spec.uses l.source l.wires);
}
