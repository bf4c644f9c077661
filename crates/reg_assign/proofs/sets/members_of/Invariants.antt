use Rattle.std.proofs.Common.{◌≡◌}
use Rattle.reg_assign.specs.inside.Live.{members_below}
use Rattle.reg_assign.specs.inside.Pass.{seen}
use Rattle.reg_assign.proofs.sets.members_of.Given as goal

abbrev pub invariant-loop-v : goal.invariant-loop-v
invariant-loop-v l = l.list ≡ members_below l.v (seen l.set)
