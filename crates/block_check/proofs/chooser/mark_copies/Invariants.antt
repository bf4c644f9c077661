use Rattle.std.proofs.Common.{◌≡◌, ◌<◌, ℕ, take, false}
use Rattle.block_cases.specs.Cases.{bit}
use Rattle.block_check.specs.inside.Leads.{at_slot}
use Rattle.block_check.proofs.chooser.mark_copies.Given as goal

abbrev pub invariant-loop-mark : goal.invariant-loop-mark
invariant-loop-mark l = (k : ℕ) → k < l.mark-index → bit l.left k ≡ false

abbrev pub invariant-loop-x : goal.invariant-loop-x
invariant-loop-x l = (s : ℕ) → s < 512 → bit l.left s ≡ at_slot (take l.x l.nodes) s (bit l.lead)
