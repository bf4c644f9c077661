use Rattle.std.proofs.Common.{◌≡◌, length}
use Rattle.c_units.specs.Completed.{whole_head}
use Rattle.c_units.proofs.completed.whole_head.Given as goal

abbrev pub invariant-loop-rest : goal.invariant-loop-rest
invariant-loop-rest l = whole_head l.fn.all l.fn.head ≡ whole_head l.rest l.fn.head

abbrev pub decreases-loop-rest : goal.decreases-loop-rest
decreases-loop-rest l = length l.rest
