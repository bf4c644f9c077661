use Rattle.std.proofs.Common.{◌≡◌, ◌++◌, drop}
use Rattle.null_outputs.specs.inside.Groups as groups
use Rattle.null_outputs.proofs.numbers.stores_of.Given as goal

abbrev pub invariant-loop-n : goal.invariant-loop-n
invariant-loop-n l =
    (l.j ≡ l.n-index)
    × (l.found ++ groups.stores_of l.j (drop l.n-index l.nodes) l.k ≡ groups.stores_of 0 l.nodes l.k)
