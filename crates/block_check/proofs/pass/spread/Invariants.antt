use Rattle.std.proofs.Common.{◌≡◌, ◌<◌, ◌≤◌, ◌+◌, ℕ, length, drop}
use Rattle.block_cases.specs.declared.token.CaseToken.TheVariants.{Absent}
use Rattle.block_cases.specs.CaseRule.{first}
use Rattle.block_check.specs.inside.Pass.{tok_at}
use Rattle.block_check.proofs.pass.spread.Given as goal

abbrev pub invariant-loop-spot : goal.invariant-loop-spot
invariant-loop-spot l = (k : ℕ) → k < l.spot-index → tok_at l.spots k ≡ Absent

abbrev pub invariant-loop-x : goal.invariant-loop-x
invariant-loop-x l = record {
  within : l.x ≤ length l.nodes;
  done : (q : ℕ) → q < 768 → tok_at l.spots q ≡ first (drop l.x l.nodes) q (λ y. tok_at l.toks (l.x
      + y));
}

abbrev pub decreases-loop-x : goal.decreases-loop-x
decreases-loop-x l = l.x
