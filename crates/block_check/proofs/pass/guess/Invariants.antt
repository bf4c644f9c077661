use Rattle.std.proofs.Common.{◌≡◌, ◌<◌, ℕ}
use Rattle.block_cases.specs.declared.token.CaseToken.TheVariants.{Absent}
use Rattle.block_check.specs.inside.Pass.{tok_at, AbsentFrom}
use Rattle.block_check.proofs.pass.guess.Given as goal

abbrev pub invariant-loop-token : goal.invariant-loop-token
invariant-loop-token l = (k : ℕ) → k < l.token-index → tok_at l.toks k ≡ Absent

abbrev pub invariant-loop-x : goal.invariant-loop-x
invariant-loop-x l = AbsentFrom l.used l.toks
