use Rattle.std.proofs.Common.{◌≡◌, ◌≤◌, ◌+◌, length}
use Rattle.c_units.specs.Joined.{count_from}
use Rattle.c_units.proofs.joined.count.Given as goal

abbrev pub invariant-loop-rest : goal.invariant-loop-rest
invariant-loop-rest l = record {
  value : count_from 0 l.fn.declarations l.fn.head ≡ count_from l.found l.rest l.fn.head;
  few : l.found + length l.rest ≤ l.size;
}

abbrev pub decreases-loop-rest : goal.decreases-loop-rest
decreases-loop-rest l = length l.rest
