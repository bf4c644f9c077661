use Rattle.std.proofs.Common.{length}
use Rattle.c_type_expr.proofs.Chains.{Walk, above}
use Rattle.c_type_expr.proofs.entries.place_of.Given as goal

abbrev pub invariant-loop-next : goal.invariant-loop-next
invariant-loop-next l = Walk (length l.heads) l.entries l.name l.next

abbrev pub decreases-loop-next : goal.decreases-loop-next
decreases-loop-next l = above l.next
