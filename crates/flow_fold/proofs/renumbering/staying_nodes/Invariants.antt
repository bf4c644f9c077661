use Rattle.std.proofs.Common.{◌≡◌, ◌++◌, drop}
use Rattle.flow_fold.specs.inside.SweepsAll as sweep
use Rattle.flow_fold.proofs.renumbering.staying_nodes.Given as goal

abbrev pub invariant-loop-n : goal.invariant-loop-n
invariant-loop-n l =
    (l.j ≡ l.n-index)
    × (l.out ++ sweep.staying (sweep.tabled l.table l.less) (sweep.stays l.keeps) l.j (drop l.n-index l.nodes)
    ≡ sweep.staying (sweep.tabled l.table l.less) (sweep.stays l.keeps) 0 l.nodes)
