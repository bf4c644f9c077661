use Rattle.std.proofs.Common.{◌≡◌, ◌≤◌, ◌-◌, List, Bool, drop, length}
use Rattle.block_check.specs.inside.Found.{others}
use Rattle.block_check.proofs.search.next_chooser.Given as goal

abbrev pub invariant-loop-at : goal.invariant-loop-at
invariant-loop-at l = record {
  above : l.from ≤ l.at;
  within : l.at ≤ length l.order;
  same : (c : List Bool) → others l.nodes (drop l.from l.order) c ≡ others l.nodes (drop l.at
      l.order) c;
}

abbrev pub decreases-loop-at : goal.decreases-loop-at
decreases-loop-at l = length l.order - l.at
