use Rattle.std.proofs.Common.{◌≡◌, length, reverse}
use Rattle.c_names.specs.Scope.{outside}
use Rattle.c_names.proofs.scope.leave_block.Given as goal

abbrev pub invariant-loop-entry : goal.invariant-loop-entry
invariant-loop-entry l = outside (reverse l.fn.entries.items) ≡ outside (reverse l.entries.items)

abbrev pub decreases-loop-entry : goal.decreases-loop-entry
decreases-loop-entry l = length l.entries.items
