use Rattle.std.proofs.Common.{◌≡◌, ◌++◌, drop}
use Rattle.null_outputs.specs.inside.Listed as listed
use Rattle.null_outputs.proofs.filling.all_filled.Given as goal

abbrev pub invariant-loop-w : goal.invariant-loop-w
invariant-loop-w l =
    l.found
    ++ listed.all_filled_by (listed.sure_in_guess l.nodes l.guess)
    (listed.cover_in l.nodes l.guess l.starts) l.p (drop l.w-index l.writes)
    ≡ listed.all_filled_by (listed.sure_in_guess l.nodes l.guess)
    (listed.cover_in l.nodes l.guess l.starts) l.first l.writes
