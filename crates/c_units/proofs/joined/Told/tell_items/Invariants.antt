use Rattle.std.proofs.Common.{◌≡◌, length}
use Rattle.c_units.specs.Joined.{items_told}
use Rattle.c_units.proofs.joined.Told.tell_items.Given as goal

abbrev pub invariant-loop-rest : goal.invariant-loop-rest
invariant-loop-rest l = items_told l.fn.all l.fn.items l.fn.self ≡ items_told l.fn.all l.rest l.self

abbrev pub decreases-loop-rest : goal.decreases-loop-rest
decreases-loop-rest l = length l.rest
