use Rattle.std.proofs.Common.{◌≡◌, length}
use Rattle.c_library.specs.Definitions.{names}
use Rattle.c_library.proofs.definition.names.Given as goal

abbrev pub invariant-loop-rest : goal.invariant-loop-rest
invariant-loop-rest l = names l.fn.name l.fn.forms ≡ names l.name l.rest

abbrev pub decreases-loop-rest : goal.decreases-loop-rest
decreases-loop-rest l = length l.rest
