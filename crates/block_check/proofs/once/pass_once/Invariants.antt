use Rattle.std.proofs.Common.{◌≡◌, ◌<◌, ℕ, drop}
use Rattle.block_cases.specs.declared.token.CaseToken.TheVariants.{Absent}
use Rattle.block_cases.specs.Nodes.{Ranked}
use Rattle.block_cases.specs.Cases.{bit}
use Rattle.block_check.specs.inside.Pass.{tok_at}
use Rattle.block_check.specs.inside.Passing.{Passing}
use Rattle.block_check.specs.inside.Walk.{Order}
use Rattle.block_check.proofs.once.pass_once.Given as goal

abbrev pub invariant-loop-token : goal.invariant-loop-token
invariant-loop-token l = (k : ℕ) → k < l.token-index → tok_at l.toks k ≡ Absent

abbrev pub invariant-loop-spot : goal.invariant-loop-spot
invariant-loop-spot l = (k : ℕ) → k < l.spot-index → tok_at l.spots k ≡ Absent

abbrev pub invariant-loop-at : goal.invariant-loop-at
invariant-loop-at l = (rank : ℕ → ℕ) → Ranked l.nodes rank → Order l.nodes rank l.order →
    Passing l.nodes rank (drop l.at l.order) (bit l.bits) l.spots l.toks
