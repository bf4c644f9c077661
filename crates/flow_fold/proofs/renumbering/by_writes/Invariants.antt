use Rattle.std.proofs.Common.{◌≡◌, ◌++◌, drop, map}
use Rattle.flow_fold.specs.inside.SweepsAll as sweep
use Rattle.flow_fold.proofs.renumbering.by_writes.Given as goal

abbrev pub invariant-loop-w : goal.invariant-loop-w
invariant-loop-w l =
    l.out ++ map (sweep.by_write (sweep.tabled l.table l.less)) (drop l.w-index l.writes)
    ≡ map (sweep.by_write (sweep.tabled l.table l.less)) l.writes
