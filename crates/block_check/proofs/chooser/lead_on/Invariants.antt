use Rattle.std.proofs.Common.{◌≡◌, ◌<◌, ℕ, slice_get, false}
use Rattle.block_cases.specs.Cases.{bit}
use Rattle.block_check.specs.inside.Leads.{leads_at, FalseFrom}
use Rattle.block_check.proofs.chooser.lead_on.Given as goal

abbrev pub invariant-loop-x : goal.invariant-loop-x
invariant-loop-x l = record {
  gives : (y : ℕ) → y < l.x → bit l.lead y ≡ leads_at (slice_get l.nodes y) (bit l.left);
  rest : FalseFrom l.used l.lead;
  same : l.changed ≡ false → (y : ℕ) → bit l.lead y ≡ bit l.initial.lead y;
}
