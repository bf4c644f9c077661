use Rattle.std.proofs.Common.{◌≡◌, length}
use Rattle.c_library.specs.Calls.{calls}
use Rattle.c_library.proofs.calls.calls.Given as goal

abbrev pub invariant-loop-rest : goal.invariant-loop-rest
invariant-loop-rest l = calls l.fn.name l.fn.tokens ≡ calls l.name l.rest

abbrev pub decreases-loop-rest : goal.decreases-loop-rest
decreases-loop-rest l = length l.rest
