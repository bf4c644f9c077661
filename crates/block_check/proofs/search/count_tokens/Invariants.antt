use Rattle.std.proofs.Common.{◌≡◌, ◌<◌, ◌≤◌, ◌*◌, ℕ, take, get_or}
use Rattle.block_cases.specs.Cases.{tokens}
use Rattle.block_check.specs.inside.Pass.{tok_at}
use Rattle.block_check.proofs.search.count_tokens.Given as goal

abbrev pub invariant-loop-count : goal.invariant-loop-count
invariant-loop-count l = (k : ℕ) → k < l.count-index → get_or l.counts k 0 ≡ 0

abbrev pub invariant-loop-x : goal.invariant-loop-x
invariant-loop-x l = record {
  room : (q : ℕ) → q < 768 → get_or l.counts q 0 ≤ 2 * l.x;
  counted : (q : ℕ) → q < 768 → get_or l.counts q 0 ≡ tokens (take l.x l.nodes) (tok_at l.toks) q;
}
