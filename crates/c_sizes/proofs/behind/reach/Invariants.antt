use Rattle.std.proofs.Common.{◌≡◌, ◌≤◌, ◌+◌, length}
use Rattle.c_sizes.specs.Behinds.{start, reach_from}
use Rattle.c_sizes.proofs.behind.reach.Given as goal

abbrev pub invariant-loop-rest : goal.invariant-loop-rest
invariant-loop-rest l = record {
  value : reach_from 0 start l.fn.tokens ≡ l.count + reach_from l.depth l.behind l.rest;
  size : l.count + length l.rest ≡ l.size;
  depth : l.depth ≤ l.count;
}

abbrev pub decreases-loop-rest : goal.decreases-loop-rest
decreases-loop-rest l = length l.rest
