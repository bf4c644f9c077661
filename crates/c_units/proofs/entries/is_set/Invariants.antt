use Rattle.std.proofs.Common.{◌≡◌, length}
use Rattle.c_units.specs.Entries.{is_set}
use Rattle.c_units.proofs.entries.is_set.Given as goal

abbrev pub invariant-loop-rest : goal.invariant-loop-rest
invariant-loop-rest l = is_set l.fn.index l.fn.given ≡ is_set l.fn.index l.rest

abbrev pub decreases-loop-rest : goal.decreases-loop-rest
decreases-loop-rest l = length l.rest
