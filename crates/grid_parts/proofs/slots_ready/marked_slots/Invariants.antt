use Rattle.grid_parts.proofs.MarkFacts.{SlotsBelow}
use Rattle.grid_parts.proofs.slots_ready.marked_slots.Given as goal

abbrev pub invariant-loop-i : goal.invariant-loop-i
invariant-loop-i g l = SlotsBelow (g.V.Windows.blocks l.window) (g.V.Windows.budget l.window)
    (g.V.Windows.held l.window) l.order l.marks l.i
