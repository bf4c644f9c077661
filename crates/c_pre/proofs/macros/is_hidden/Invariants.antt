use Rattle.std.proofs.Common.{◌≡◌, length}
use Rattle.c_pre.specs.Macros.{is_hidden}
use Rattle.c_pre.proofs.macros.is_hidden.Given as goal

abbrev pub invariant-loop-rest : goal.invariant-loop-rest
invariant-loop-rest l = is_hidden l.fn.name l.fn.hidden ≡ is_hidden l.name l.rest

abbrev pub decreases-loop-rest : goal.decreases-loop-rest
decreases-loop-rest l = length l.rest
