use Rattle.std.proofs.Common.{◌≡◌, length}
use Rattle.c_library.specs.Definitions.{is_defined}
use Rattle.c_library.proofs.definition.is_defined.Given as goal

abbrev pub invariant-loop-rest : goal.invariant-loop-rest
invariant-loop-rest l = is_defined l.fn.name l.fn.all ≡ is_defined l.name l.rest

abbrev pub decreases-loop-rest : goal.decreases-loop-rest
decreases-loop-rest l = length l.rest
