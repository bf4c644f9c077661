use Rattle.std.proofs.Common.{◌≡◌, ◌++◌, length}
use Rattle.flow_guards.specs.inside.Unguards.{all_loosened, marked}
use Rattle.flow_guards.proofs.loosening.all_loosened.Given as goal

abbrev pub invariant-loop-n : goal.invariant-loop-n
invariant-loop-n l =
    l.out ++ all_loosened (marked l.marks) (length l.out) l.rest ≡ all_loosened (marked l.marks) 0 l.fn.nodes

abbrev pub decreases-loop-n : goal.decreases-loop-n
decreases-loop-n l = length l.rest
