use Rattle.std.proofs.Common.{◌≤◌, length}
use Rattle.block_check.specs.inside.Leads.{FalseFrom}
use Rattle.block_check.proofs.chooser.guess_leads.Given as goal

abbrev pub invariant-loop-k : goal.invariant-loop-k
invariant-loop-k l = record {
  within : l.k ≤ length l.order;
  rest : FalseFrom l.used l.lead;
}

abbrev pub decreases-loop-k : goal.decreases-loop-k
decreases-loop-k l = l.k
