use Rattle.std.proofs.Common.{◌≤◌}
use Rattle.block_check.specs.inside.Used.{IsEmptyFrom}
use Rattle.block_check.proofs.targets.used_slots.Given as goal

abbrev pub invariant-loop-used : goal.invariant-loop-used
invariant-loop-used l = record {
  within : l.used ≤ 128;
  empty : IsEmptyFrom l.block l.used;
}

abbrev pub decreases-loop-used : goal.decreases-loop-used
decreases-loop-used l = l.used
