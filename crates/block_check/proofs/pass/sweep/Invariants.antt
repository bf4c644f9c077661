use Rattle.std.proofs.Common.{◌≡◌, ◌<◌, ℕ, slice_get, false}
use Rattle.block_cases.specs.CaseRule.{pulled}
use Rattle.block_cases.specs.Cases.{bit}
use Rattle.block_check.specs.inside.Pass.{tok_at, AbsentFrom}
use Rattle.block_check.proofs.pass.sweep.Given as goal

abbrev pub invariant-loop-x : goal.invariant-loop-x
invariant-loop-x l = record {
  gives : (y : ℕ) → y < l.x → tok_at l.toks y ≡ pulled (slice_get l.nodes y) (bit l.bits y) (tok_at
      l.spots);
  rest : AbsentFrom l.used l.toks;
  same : l.changed ≡ false → (y : ℕ) → tok_at l.toks y ≡ tok_at l.initial.toks y;
}
