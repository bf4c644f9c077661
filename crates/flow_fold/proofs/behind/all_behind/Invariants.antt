use Rattle.std.proofs.Common.{◌≡◌, ◌++◌, drop}
use Rattle.flow_fold.specs.inside.Draws as draws
use Rattle.flow_fold.proofs.behind.all_behind.Given as goal

abbrev pub invariant-loop-s : goal.invariant-loop-s
invariant-loop-s l =
    l.out ++ draws.all_behind l.nodes l.marks l.j (drop l.s-index l.sources)
    ≡ draws.all_behind l.nodes l.marks l.j l.sources
