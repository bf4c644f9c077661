use Rattle.std.proofs.Common.{◌≡◌, ◌≤◌, ◌-◌, ℕ, slice_get, false}
use Rattle.block_cases.specs.Choosers.{leads_from}
use Rattle.block_cases.specs.Cases.{bit}
use Rattle.block_check.specs.inside.Leads.{FalseFrom, led_from}
use Rattle.block_check.proofs.chooser.find_leads.Given as goal
use Rattle.trips_isa.specs.Limits.{most_nodes}

abbrev pub invariant-loop-changed : goal.invariant-loop-changed
invariant-loop-changed l = record {
  few : l.rounds ≤ most_nodes;
  rest : FalseFrom l.used l.lead;
  gives : (x : ℕ) → bit l.lead x ≡ led_from l.nodes (bit l.initial.lead) l.rounds x;
  stable : l.changed ≡ false → (x : ℕ) → bit l.lead x ≡ leads_from l.nodes (slice_get l.nodes x)
      (bit l.lead);
}

abbrev pub decreases-loop-changed : goal.decreases-loop-changed
decreases-loop-changed l = most_nodes - l.rounds
