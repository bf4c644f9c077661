use Rattle.std.proofs.Common.{◌≡◌, ◌≤◌, ◌+◌, length}
use Rattle.c_names.specs.Words.{count}
use Rattle.c_names.proofs.words.count.Given as goal

abbrev pub invariant-loop-rest : goal.invariant-loop-rest
invariant-loop-rest l = record {
  value : count l.fn.class l.fn.all ≡ l.number + count l.class l.rest;
  few : l.number + length l.rest ≤ length l.fn.all;
}

abbrev pub decreases-loop-rest : goal.decreases-loop-rest
decreases-loop-rest l = length l.rest
