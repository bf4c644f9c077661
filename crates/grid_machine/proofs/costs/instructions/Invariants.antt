use Rattle.std.proofs.Common.{◌≡◌, ◌≤◌, ◌+◌, drop}
use Rattle.grid_cycle_spec.specs.Costs.{instructions}
use Rattle.grid_machine.proofs.costs.instructions.Given as goal

abbrev pub invariant-loop-i : goal.invariant-loop-i
invariant-loop-i l = record {
  sum : l.count + instructions (drop l.i l.slots) ≡ instructions l.slots;
  few : l.count ≤ l.i;
}
