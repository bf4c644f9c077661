use Rattle.std.proofs.Common.{◌≡◌, ◌<◌, ℕ}
use Rattle.block_cases.specs.declared.token.CaseToken.TheVariants.{Null}
use Rattle.block_check.specs.inside.Pass.{tok_at}
use Rattle.block_check.proofs.order.count_with.Given as goal

abbrev pub invariant-loop-tok : goal.invariant-loop-tok
invariant-loop-tok l = (k : ℕ) → k < l.tok-index → tok_at l.toks k ≡ Null
