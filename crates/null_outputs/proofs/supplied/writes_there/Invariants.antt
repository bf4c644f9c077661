use Rattle.std.proofs.Common.{◌≡◌, drop}
use Rattle.null_outputs.specs.inside.Supplied as supplied
use Rattle.null_outputs.specs.inside.Surely as surely
use Rattle.null_outputs.proofs.supplied.writes_there.Given as goal

abbrev pub invariant-loop-w : goal.invariant-loop-w
invariant-loop-w l =
    supplied.writes_there (surely.sure_of l.nodes (surely.firm_of l.firm)) (drop l.w-index l.writes)
    ≡ supplied.writes_there (surely.sure_of l.nodes (surely.firm_of l.firm)) l.writes
