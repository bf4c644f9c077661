use Rattle.std.proofs.Common.{◌≡◌, [], length}
use Rattle.c_units.specs.Objects.{words_from}
use Rattle.c_units.proofs.objects.words.Given as goal

abbrev pub invariant-loop-rest : goal.invariant-loop-rest
invariant-loop-rest l = words_from l.fn.external [] l.fn.tokens ≡ words_from l.fn.external l.out l.rest

abbrev pub decreases-loop-rest : goal.decreases-loop-rest
decreases-loop-rest l = length l.rest
