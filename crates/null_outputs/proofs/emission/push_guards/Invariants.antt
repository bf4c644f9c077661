use Rattle.std.proofs.Common.{◌≡◌, ◌++◌, ◌+◌, drop, length}
use Rattle.null_outputs.specs.inside.Groups as groups
use Rattle.null_outputs.specs.inside.Listed as listed
use Rattle.null_outputs.proofs.emission.push_guards.Given as goal

abbrev pub invariant-loop-n : goal.invariant-loop-n
invariant-loop-n l =
    (l.j ≡ l.n-index)
    × (l.out
    ++ groups.region (groups.guard_part (listed.want_in_guess l.guess) l.nodes
    (listed.cover_in l.nodes l.guess l.starts) l.s)
    (groups.guard_part_size (listed.want_in_guess l.guess) l.nodes (listed.sure_in_guess l.nodes l.guess) l.s)
    (length l.nodes + length l.out) l.j (drop l.n-index l.nodes)
    ≡ l.initial.out
    ++ groups.region (groups.guard_part (listed.want_in_guess l.guess) l.nodes
    (listed.cover_in l.nodes l.guess l.starts) l.s)
    (groups.guard_part_size (listed.want_in_guess l.guess) l.nodes (listed.sure_in_guess l.nodes l.guess) l.s)
    (length l.nodes + length l.initial.out) 0 l.nodes)
