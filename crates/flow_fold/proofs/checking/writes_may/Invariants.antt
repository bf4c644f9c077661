use Rattle.std.proofs.Common.{◌≡◌, drop}
use Rattle.flow_fold.specs.inside.SweepsAll as sweep
use Rattle.flow_fold.proofs.checking.writes_may.Given as goal

abbrev pub invariant-loop-w : goal.invariant-loop-w
invariant-loop-w l =
    sweep.writes_may (sweep.stays l.keeps) (drop l.w-index l.writes)
    ≡ sweep.writes_may (sweep.stays l.keeps) l.writes
