use Rattle.std.proofs.Common.{◌≡◌, drop}
use Rattle.grid_parts.specs.inside.EldestChoices.{first_found}
use Rattle.grid_parts.specs.inside.Choices.{lowest_read}
use Rattle.grid_parts.proofs.read_marks.readable_among.Given as goal

abbrev pub invariant-loop-i : goal.invariant-loop-i
invariant-loop-i g l =
    first_found (lowest_read (g.V.Windows.blocks l.window) (g.V.Windows.budget l.window)
    (g.V.Windows.held l.window) l.bank) (drop l.i l.order)
    ≡ first_found (lowest_read (g.V.Windows.blocks l.window) (g.V.Windows.budget l.window)
    (g.V.Windows.held l.window) l.bank) l.order
