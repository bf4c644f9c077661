use Rattle.std.proofs.Common.{◌≡◌, take, map}
use Rattle.reg_assign.specs.inside.Live.{groups_of}
use Rattle.reg_assign.proofs.grouping.all_groups.Given as goal

abbrev pub invariant-loop-list : goal.invariant-loop-list
invariant-loop-list l = l.all ≡ map groups_of (take l.list-index l.lists)
