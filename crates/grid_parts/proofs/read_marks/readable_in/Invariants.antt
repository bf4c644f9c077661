use Rattle.std.proofs.Common.{◌-◌}
use Rattle.grid_cycle_spec.specs.Choosing.{reads}
use Rattle.grid_parts.specs.inside.Choices.{may_read}
use Rattle.grid_parts.proofs.LeastFacts.{NoneWithin}
use Rattle.grid_parts.proofs.read_marks.readable_in.Given as goal

abbrev pub invariant-loop-read : goal.invariant-loop-read
invariant-loop-read g l = NoneWithin (may_read (g.V.Windows.blocks l.window) (g.V.Windows.budget l.window)
    (g.V.Windows.held l.window) l.bank l.frame) reads l.read

abbrev pub decreases-loop-read : goal.decreases-loop-read
decreases-loop-read g l = 32 - l.read
