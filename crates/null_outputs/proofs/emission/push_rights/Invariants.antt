use Rattle.std.proofs.Common.{◌≡◌, ◌++◌, ◌+◌, drop, length}
use Rattle.null_outputs.specs.inside.Groups as groups
use Rattle.null_outputs.specs.inside.Listed as listed
use Rattle.null_outputs.proofs.emission.push_rights.Given as goal

abbrev pub invariant-loop-n : goal.invariant-loop-n
invariant-loop-n l =
    (l.j ≡ l.n-index)
    × (l.out
    ++ groups.region (groups.right_part (listed.sure_in_guess l.nodes l.guess) (listed.want_in_guess l.guess)
    (listed.cover_in l.nodes l.guess l.starts))
    (groups.right_size (listed.sure_in_guess l.nodes l.guess) (listed.want_in_guess l.guess))
    (length l.nodes + length l.out) l.j (drop l.n-index l.nodes)
    ≡ l.initial.out
    ++ groups.region (groups.right_part (listed.sure_in_guess l.nodes l.guess) (listed.want_in_guess l.guess)
    (listed.cover_in l.nodes l.guess l.starts))
    (groups.right_size (listed.sure_in_guess l.nodes l.guess) (listed.want_in_guess l.guess))
    (length l.nodes + length l.initial.out) 0 l.nodes)
