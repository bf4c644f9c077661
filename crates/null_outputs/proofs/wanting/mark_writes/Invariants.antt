use Rattle.std.proofs.Common.{◌≡◌, drop}
use Rattle.null_outputs.specs.inside.Surely as surely
use Rattle.null_outputs.specs.inside.Wants as wanted
use Rattle.null_outputs.proofs.wanting.mark_writes.Given as goal

abbrev pub invariant-loop-w : goal.invariant-loop-w
invariant-loop-w l =
    wanted.mark_writes (surely.sure_of l.nodes (surely.firm_of l.firm)) l.wants
    (drop l.w-index l.writes)
    ≡ wanted.mark_writes (surely.sure_of l.nodes (surely.firm_of l.firm)) l.initial.wants l.writes
