use Rattle.std.proofs.Common.{◌≡◌, ◌≤◌}
use Rattle.flow_fold.specs.inside.SweepsAll as sweep
use Rattle.flow_fold.proofs.renumbering.staying_count.Given as goal

abbrev pub invariant-loop-j : goal.invariant-loop-j
invariant-loop-j l = (l.next ≡ sweep.number (sweep.stays l.keeps) l.j) × (l.next ≤ l.j)
