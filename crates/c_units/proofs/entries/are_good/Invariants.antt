use Rattle.std.proofs.Common.{◌≡◌, length}
use Rattle.c_units.specs.Entries.{are_good}
use Rattle.c_units.proofs.entries.are_good.Given as goal

abbrev pub invariant-loop-rest : goal.invariant-loop-rest
invariant-loop-rest l = are_good l.fn.given ≡ are_good l.rest

abbrev pub decreases-loop-rest : goal.decreases-loop-rest
decreases-loop-rest l = length l.rest
