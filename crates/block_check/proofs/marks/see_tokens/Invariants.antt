use Rattle.std.proofs.Common.{◌≡◌, ◌<◌, ℕ, take, get_or, min}
use Rattle.block_cases.specs.Cases.{tokens}
use Rattle.block_check.specs.inside.Pass.{tok_at}
use Rattle.block_check.proofs.marks.see_tokens.Given as goal

abbrev pub invariant-loop-count : goal.invariant-loop-count
invariant-loop-count l = (k : ℕ) → k < l.count-index → get_or l.seen k 0 ≡ 0

abbrev pub invariant-loop-x : goal.invariant-loop-x
invariant-loop-x l = (q : ℕ) → q < 768 →
    get_or l.seen q 0 ≡ min 2 (tokens (take l.x l.nodes) (tok_at l.toks) q)
