use Rattle.std.proofs.Common.{◌≡◌, ◌<◌, ℕ, Some, slice_get, false}
use Rattle.trips_isa.specs.declared.node.Node.{Node}
use Rattle.block_cases.specs.Nodes.{targets}
use Rattle.block_cases.specs.Choosers.{names_predicate}
use Rattle.block_check.proofs.chooser.any_names_predicate.Given as goal

abbrev pub invariant-loop-x : goal.invariant-loop-x
invariant-loop-x l = (y : ℕ) (n : Node) → y < l.x → slice_get l.nodes y ≡ Some n →
    names_predicate (targets n) ≡ false
