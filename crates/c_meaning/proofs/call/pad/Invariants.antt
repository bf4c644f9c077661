use Rattle.std.proofs.Common.{◌≡◌, ◌++◌, None, replicate}
use Rattle.c_meaning.proofs.call.pad.Given as goal

abbrev pub invariant-loop-i : goal.invariant-loop-i
invariant-loop-i l = l.scalars ≡ l.initial.scalars ++ replicate l._i None
