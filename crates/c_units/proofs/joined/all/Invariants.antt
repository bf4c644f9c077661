use Rattle.std.proofs.Common.{◌≡◌, [], length}
use Rattle.c_units.specs.Joined.{all_from}
use Rattle.c_units.proofs.joined.all.Given as goal

abbrev pub invariant-loop-rest : goal.invariant-loop-rest
invariant-loop-rest l = all_from [] l.fn.items ≡ all_from l.out l.rest

abbrev pub decreases-loop-rest : goal.decreases-loop-rest
decreases-loop-rest l = length l.rest
