use Rattle.std.proofs.Common.{◌≡◌}
use Rattle.reg_assign.specs.inside.Live.{first_groups}
use Rattle.reg_assign.proofs.grouping.groups_of.Given as goal

abbrev pub invariant-loop-n : goal.invariant-loop-n
invariant-loop-n l = l.groups ≡ first_groups l.n l.list
