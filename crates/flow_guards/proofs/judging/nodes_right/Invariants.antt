use Rattle.std.proofs.Common.{◌≡◌, drop}
use Rattle.flow_guards.specs.inside.Guards.{guards_of}
use Rattle.flow_guards.specs.inside.Unguards.{nodes_right, marked}
use Rattle.flow_guards.proofs.judging.nodes_right.Given as goal

abbrev pub invariant-loop-n : goal.invariant-loop-n
invariant-loop-n l =
    (l.j ≡ l.n-index)
    × (nodes_right (guards_of l.nodes) (marked l.marks) l.j (drop l.n-index l.nodes)
    ≡ nodes_right (guards_of l.nodes) (marked l.marks) 0 l.nodes)
