use Rattle.std.proofs.Common.{◌≡◌, ◌≤◌, ◌+◌, length}
use Rattle.c_words.specs.Keys.{run}
use Rattle.c_words.proofs.run.run_length.Given as goal

abbrev pub invariant-loop-rest : goal.invariant-loop-rest
invariant-loop-rest l = record {
  value : length (run l.fn.tokens) ≡ l.count + length (run l.rest);
  few : l.count + length l.rest ≤ length l.fn.tokens;
}

abbrev pub decreases-loop-rest : goal.decreases-loop-rest
decreases-loop-rest l = length l.rest
