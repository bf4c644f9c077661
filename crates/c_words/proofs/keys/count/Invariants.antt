use Rattle.std.proofs.Common.{◌≡◌, ◌≤◌, ◌+◌, length}
use Rattle.c_words.specs.Keys.{count}
use Rattle.c_words.proofs.keys.count.Given as goal

abbrev pub invariant-loop-rest : goal.invariant-loop-rest
invariant-loop-rest l = record {
  value : count l.fn.key l.fn.words ≡ l.total + count l.key l.rest;
  few : l.total + length l.rest ≤ l.most;
}

abbrev pub decreases-loop-rest : goal.decreases-loop-rest
decreases-loop-rest l = length l.rest
