use Rattle.std.proofs.Common.{◌≡◌, drop}
use Rattle.flow_fold.specs.inside.SweepsAll as sweep
use Rattle.flow_fold.proofs.checking.nodes_may.Given as goal

abbrev pub invariant-loop-n : goal.invariant-loop-n
invariant-loop-n l =
    (l.j ≡ l.n-index)
    × (sweep.nodes_may (sweep.stays l.keeps) l.j (drop l.n-index l.nodes)
    ≡ sweep.nodes_may (sweep.stays l.keeps) 0 l.nodes)
