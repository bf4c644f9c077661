use Rattle.std.proofs.Common.{◌≡◌, ◌++◌, drop, length, map}
use Rattle.predication.specs.inside.Emits.{low, puts, joined_at}
use Rattle.predication.proofs.joining.join.Given as goal

abbrev pub invariant-loop-register : goal.invariant-loop-register
invariant-loop-register l = record {
  nodes : l.work.nodes ++ map low (joined_at l.test (length l.work.nodes) l.before l.yes l.no
      (drop l.register-index l.registers)).nodes
      ≡ l.fn.work.nodes ++ map low (joined_at l.test (length l.fn.work.nodes) l.before l.yes l.no
      l.registers).nodes;
  number : l.work.number ≡ l.fn.work.number;
  env : puts l.named (joined_at l.test (length l.work.nodes) l.before l.yes l.no
      (drop l.register-index l.registers)).env
      ≡ (joined_at l.test (length l.fn.work.nodes) l.before l.yes l.no l.registers).env;
}
