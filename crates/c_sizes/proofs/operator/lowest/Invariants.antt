use Rattle.std.proofs.Common.{◌≡◌, ◌≤◌, ◌+◌, length}
use Rattle.std.specs.Prelude.{None}
use Rattle.c_sizes.specs.Behinds.{start}
use Rattle.c_sizes.specs.Operators.{lowest_from}
use Rattle.c_sizes.proofs.operator.lowest.Given as goal

abbrev pub invariant-loop-rest : goal.invariant-loop-rest
invariant-loop-rest l = record {
  value : lowest_from 0 0 start None l.fn.tokens ≡ lowest_from l.count l.depth l.behind l.found l.rest;
  size : l.count + length l.rest ≡ l.size;
  depth : l.depth ≤ l.count;
}

abbrev pub decreases-loop-rest : goal.decreases-loop-rest
decreases-loop-rest l = length l.rest
