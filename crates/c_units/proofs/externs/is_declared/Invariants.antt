use Rattle.std.proofs.Common.{◌≡◌, length}
use Rattle.c_units.specs.Externs.{is_declared}
use Rattle.c_units.proofs.externs.is_declared.Given as goal

abbrev pub invariant-loop-rest : goal.invariant-loop-rest
invariant-loop-rest l = is_declared l.fn.name l.fn.tokens ≡ is_declared l.fn.name l.rest

abbrev pub decreases-loop-rest : goal.decreases-loop-rest
decreases-loop-rest l = length l.rest
