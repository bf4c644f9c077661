use Rattle.std.proofs.Common.{◌≡◌, ◌≤◌, drop, length}
use Rattle.null_outputs.specs.inside.Surely as surely
use Rattle.null_outputs.specs.inside.Wants as wanted
use Rattle.null_outputs.proofs.wanting.spread.Given as goal

abbrev pub invariant-loop-at : goal.invariant-loop-at
invariant-loop-at l =
    (l.at ≤ length l.nodes)
    × (l.wants
    ≡ wanted.spread (surely.sure_of l.nodes (surely.firm_of l.firm)) l.initial.wants l.at
    (drop l.at l.nodes))

abbrev pub decreases-loop-at : goal.decreases-loop-at
decreases-loop-at l = l.at
