use Rattle.std.proofs.Common.{◌≡◌, ◌<◌, ◌≤◌, ℕ, slice_get}
use Rattle.block_cases.specs.Choosers.{leads, is_chooser}
use Rattle.block_cases.specs.Cases.{bit, deepest}
use Rattle.block_check.proofs.chooser.find_choosers.Given as goal

abbrev pub invariant-loop-x : goal.invariant-loop-x
invariant-loop-x l = record {
  done : (y : ℕ) → y < l.x → bit l.choosers y ≡ is_chooser l.nodes y (slice_get l.nodes y);
  left : (y : ℕ) → l.x ≤ y → bit l.choosers y ≡ leads l.nodes deepest y;
}
