use Rattle.std.proofs.Common.{◌≡◌, ◌≤◌, ◌+◌, length}
use Rattle.c_sizes.specs.Counts.{parted}
use Rattle.c_sizes.proofs.size.parted.Given as goal

abbrev pub invariant-loop-rest : goal.invariant-loop-rest
invariant-loop-rest l = record {
  value : parted 0 l.fn.tokens ≡ l.number + parted l.depth l.rest;
  few : l.depth + length l.rest ≤ l.count;
  less : l.number + length l.rest ≤ l.count;
  counted : l.count ≡ length l.fn.tokens;
}

abbrev pub decreases-loop-rest : goal.decreases-loop-rest
decreases-loop-rest l = length l.rest
