use Rattle.std.proofs.Common.{◌-◌}
use Rattle.commit_flush_spec.specs.Window.{Read, can}
use Rattle.grid_cycle_spec.specs.Acting.{is_done}
use Rattle.grid_parts.proofs.MarkFacts.{MarkedBelow}
use Rattle.grid_parts.proofs.read_marks.reads_of.Given as goal

abbrev pub invariant-loop-read : goal.invariant-loop-read
invariant-loop-read g l = MarkedBelow (λ r. is_done (can (g.V.Windows.blocks l.window) (g.V.Windows.budget l.window)
    (Read l.frame r) (g.V.Windows.held l.window))) l.marks l.read

abbrev pub decreases-loop-read : goal.decreases-loop-read
decreases-loop-read g l = 32 - l.read
