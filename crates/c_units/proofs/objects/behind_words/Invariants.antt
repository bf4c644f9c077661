use Rattle.std.proofs.Common.{◌≡◌, length}
use Rattle.c_units.specs.Objects.{behind_words}
use Rattle.c_units.proofs.objects.behind_words.Given as goal

abbrev pub invariant-loop-rest : goal.invariant-loop-rest
invariant-loop-rest l = behind_words l.fn.external l.fn.tokens ≡ behind_words l.fn.external l.rest

abbrev pub decreases-loop-rest : goal.decreases-loop-rest
decreases-loop-rest l = length l.rest
