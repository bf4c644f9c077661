use Rattle.std.proofs.Common.{◌≡◌, ◌++◌, ◌+◌, drop, length}
use Rattle.null_outputs.specs.inside.Groups as groups
use Rattle.null_outputs.specs.inside.Listed as listed
use Rattle.null_outputs.proofs.emission.push_writes.Given as goal

abbrev pub invariant-loop-w : goal.invariant-loop-w
invariant-loop-w l =
    (l.out
    ++ groups.region (listed.write_part_by (listed.sure_in_guess l.nodes l.guess)
    (listed.cover_in l.nodes l.guess l.starts))
    (listed.write_size_by (listed.sure_in_guess l.nodes l.guess))
    (length l.nodes + length l.out) l.w-index (drop l.w-index l.writes)
    ≡ l.initial.out
    ++ groups.region (listed.write_part_by (listed.sure_in_guess l.nodes l.guess)
    (listed.cover_in l.nodes l.guess l.starts))
    (listed.write_size_by (listed.sure_in_guess l.nodes l.guess))
    (length l.nodes + length l.initial.out) 0 l.writes)
