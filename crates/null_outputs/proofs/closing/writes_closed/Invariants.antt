use Rattle.std.proofs.Common.{◌≡◌, drop}
use Rattle.null_outputs.specs.inside.Surely as surely
use Rattle.null_outputs.specs.inside.Wants as wanted
use Rattle.null_outputs.proofs.closing.writes_closed.Given as goal

abbrev pub invariant-loop-w : goal.invariant-loop-w
invariant-loop-w l =
    wanted.writes_closed (surely.sure_of l.nodes (surely.firm_of l.firm)) (surely.firm_of l.wants)
    (drop l.w-index l.writes)
    ≡ wanted.writes_closed (surely.sure_of l.nodes (surely.firm_of l.firm)) (surely.firm_of l.wants)
    l.writes
