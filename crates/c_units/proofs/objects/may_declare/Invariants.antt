use Rattle.std.proofs.Common.{◌≡◌, length}
use Rattle.c_units.specs.Objects.{may_declare}
use Rattle.c_units.proofs.objects.may_declare.Given as goal

abbrev pub invariant-loop-rest : goal.invariant-loop-rest
invariant-loop-rest l = may_declare l.fn.external l.fn.words ≡ may_declare l.fn.external l.rest

abbrev pub decreases-loop-rest : goal.decreases-loop-rest
decreases-loop-rest l = length l.rest
