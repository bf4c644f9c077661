use Rattle.std.proofs.Common.{◌≤◌, length}
use Rattle.machine_save.proofs.Putting.{ZerosFrom}
use Rattle.machine_save.proofs.put.stored.Given as goal

abbrev pub invariant-loop-count : goal.invariant-loop-count
invariant-loop-count l = record {
  few : l.count ≤ length l.memory;
  zeros : ZerosFrom l.count l.memory;
}

abbrev pub decreases-loop-count : goal.decreases-loop-count
decreases-loop-count l = l.count
