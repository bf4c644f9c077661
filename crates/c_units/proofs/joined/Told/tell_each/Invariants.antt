use Rattle.std.proofs.Common.{◌≡◌, length}
use Rattle.c_units.specs.Joined.{each_told}
use Rattle.c_units.proofs.joined.Told.tell_each.Given as goal

abbrev pub invariant-loop-rest : goal.invariant-loop-rest
invariant-loop-rest l = each_told l.fn.all l.fn.declarations l.fn.self ≡ each_told l.fn.all l.rest l.self

abbrev pub decreases-loop-rest : goal.decreases-loop-rest
decreases-loop-rest l = length l.rest
