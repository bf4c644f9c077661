use Rattle.std.proofs.Common.{◌≤◌, length}
use Rattle.block_check.specs.inside.Pass.{Spare}
use Rattle.block_check.proofs.judge.count_used.Given as goal

abbrev pub invariant-loop-used : goal.invariant-loop-used
invariant-loop-used l = record {
  within : l.used ≤ length l.nodes;
  spare : Spare l.nodes l.used;
}

abbrev pub decreases-loop-used : goal.decreases-loop-used
decreases-loop-used l = l.used
