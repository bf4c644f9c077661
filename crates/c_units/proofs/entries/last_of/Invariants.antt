use Rattle.std.proofs.Common.{◌≡◌, length}
use Rattle.c_units.specs.Entries.{last_of}
use Rattle.c_units.proofs.entries.last_of.Given as goal

abbrev pub invariant-loop-rest : goal.invariant-loop-rest
invariant-loop-rest l = last_of l.fn.value l.fn.index l.fn.given ≡ last_of l.last l.fn.index l.rest

abbrev pub decreases-loop-rest : goal.decreases-loop-rest
decreases-loop-rest l = length l.rest
