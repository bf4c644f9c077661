use Rattle.std.proofs.Common.{◌≡◌, length}
use Rattle.c_names.specs.Enums.{names_from}
use Rattle.c_names.specs.inside.Separated.{marks_from}
use Rattle.c_names.proofs.typedef.take_names.Given as goal

abbrev pub invariant-loop-rest : goal.invariant-loop-rest
invariant-loop-rest l = names_from l.fn.scope l.fn.words l.fn.tokens ≡ marks_from l.scope l.words l.rest

abbrev pub decreases-loop-rest : goal.decreases-loop-rest
decreases-loop-rest l = length l.rest
