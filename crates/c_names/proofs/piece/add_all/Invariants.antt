use Rattle.std.proofs.Common.{◌≡◌, ◌++◌, length}
use Rattle.c_names.proofs.piece.add_all.Given as goal

abbrev pub invariant-loop-rest : goal.invariant-loop-rest
invariant-loop-rest l =
    l.fn.all ++ l.fn.more ≡ l.all ++ l.rest

abbrev pub decreases-loop-rest : goal.decreases-loop-rest
decreases-loop-rest l = length l.rest
