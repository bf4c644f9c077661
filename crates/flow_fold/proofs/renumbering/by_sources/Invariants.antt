use Rattle.std.proofs.Common.{◌≡◌, ◌++◌, drop, map}
use Rattle.flow_fold.specs.inside.SweepsAll as sweep
use Rattle.flow_fold.proofs.renumbering.by_sources.Given as goal

abbrev pub invariant-loop-s : goal.invariant-loop-s
invariant-loop-s l =
    l.out ++ map (sweep.by_source (sweep.tabled l.table l.less)) (drop l.s-index l.sources)
    ≡ map (sweep.by_source (sweep.tabled l.table l.less)) l.sources
