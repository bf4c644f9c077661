use Rattle.std.proofs.Common.{◌≡◌, ◌++◌, drop, map}
use Rattle.flow_fold.specs.inside.Draws as draws
use Rattle.flow_fold.proofs.drawing.drawn_writes.Given as goal

abbrev pub invariant-loop-w : goal.invariant-loop-w
invariant-loop-w l =
    l.out ++ map (draws.drawn_write l.nodes l.marks) (drop l.w-index l.writes)
    ≡ map (draws.drawn_write l.nodes l.marks) l.writes
