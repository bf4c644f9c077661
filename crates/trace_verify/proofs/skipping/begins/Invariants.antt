use Rattle.std.proofs.Common.{◌≡◌, ◌≤◌, ◌-◌, length, take}
use Rattle.trace_verify.proofs.skipping.begins.Given as goal

abbrev pub invariant-loop-same : goal.invariant-loop-same
invariant-loop-same l = record {
  bound : l.same ≤ length l.want;
  long : length l.want ≤ length l.ahead;
  alike : take l.same l.ahead ≡ take l.same l.want;
}

abbrev pub decreases-loop-same : goal.decreases-loop-same
decreases-loop-same l = length l.want - l.same
