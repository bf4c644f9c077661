use Rattle.std.proofs.Common.{◌≡◌, ◌++◌, drop}
use Rattle.null_outputs.specs.inside.Groups as groups
use Rattle.null_outputs.specs.inside.Sizes as sizes
use Rattle.null_outputs.specs.inside.Listed as listed
use Rattle.null_outputs.proofs.regions.guard_region.Given as goal

abbrev pub invariant-loop-n : goal.invariant-loop-n
invariant-loop-n l =
    (l.j ≡ l.n-index)
    × (l.starts ++ sizes.starts (groups.guard_part_size (listed.want_in_guess l.guess) l.nodes
    (listed.sure_in_guess l.nodes l.guess) l.s) l.p l.j (drop l.n-index l.nodes)
    ≡ sizes.starts (groups.guard_part_size (listed.want_in_guess l.guess) l.nodes
    (listed.sure_in_guess l.nodes l.guess) l.s) l.first 0 l.nodes)
    × (groups.end_of (groups.guard_part_size (listed.want_in_guess l.guess) l.nodes
    (listed.sure_in_guess l.nodes l.guess) l.s) l.p l.j (drop l.n-index l.nodes)
    ≡ groups.end_of (groups.guard_part_size (listed.want_in_guess l.guess) l.nodes
    (listed.sure_in_guess l.nodes l.guess) l.s) l.first 0 l.nodes)
