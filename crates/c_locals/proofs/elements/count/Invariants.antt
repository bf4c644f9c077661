use Rattle.std.proofs.Common.{◌≡◌, ◌≤◌, ◌+◌, length}
use Rattle.c_locals.specs.Elements.{count_from}
use Rattle.c_locals.proofs.elements.count.Given as goal

abbrev pub invariant-loop-rest : goal.invariant-loop-rest
invariant-loop-rest l =
    record {
      value : count_from 0 0 l.fn.values ≡ count_from l.count l.depth l.rest;
      index : l.count + length l.rest ≤ l.size;
      depth : l.depth + length l.rest ≤ l.size;
    }

abbrev pub decreases-loop-rest : goal.decreases-loop-rest
decreases-loop-rest l = length l.rest
