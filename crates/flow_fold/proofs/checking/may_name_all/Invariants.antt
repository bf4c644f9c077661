use Rattle.std.proofs.Common.{◌≡◌, drop}
use Rattle.flow_fold.specs.inside.SweepsAll as sweep
use Rattle.flow_fold.proofs.checking.may_name_all.Given as goal

abbrev pub invariant-loop-s : goal.invariant-loop-s
invariant-loop-s l =
    sweep.may_name_all (sweep.stays l.keeps) l.top (drop l.s-index l.sources)
    ≡ sweep.may_name_all (sweep.stays l.keeps) l.top l.sources
