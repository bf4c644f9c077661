use Rattle.std.proofs.Common.{◌≡◌, length}
use Rattle.c_units.specs.Entries.{count_from}
use Rattle.c_units.proofs.entries.count.Given as goal

abbrev pub invariant-loop-rest : goal.invariant-loop-rest
invariant-loop-rest l = count_from 0 l.fn.given ≡ count_from l.most l.rest

abbrev pub decreases-loop-rest : goal.decreases-loop-rest
decreases-loop-rest l = length l.rest
