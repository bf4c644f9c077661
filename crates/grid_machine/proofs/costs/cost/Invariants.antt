use Rattle.std.proofs.Common.{◌≡◌, ◌≤◌, ◌+◌, ◌*◌, drop}
use Rattle.grid_cycle_spec.specs.Costs.{cost_of, greatest_cost}
use Rattle.grid_machine.proofs.costs.cost.Given as goal

abbrev pub invariant-loop-i : goal.invariant-loop-i
invariant-loop-i l = record {
  sum : l.total + cost_of l.image.blocks (drop l.i l.trace) ≡ cost_of l.image.blocks l.trace;
  few : l.total ≤ greatest_cost * l.i;
}
