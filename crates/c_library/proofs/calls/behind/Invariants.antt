use Rattle.std.proofs.Common.{◌≡◌, length}
use Rattle.c_library.specs.Calls.{behind}
use Rattle.c_library.proofs.calls.behind.Given as goal

abbrev pub invariant-loop-rest : goal.invariant-loop-rest
invariant-loop-rest l = behind l.fn.header l.fn.tokens ≡ behind l.header l.rest

abbrev pub decreases-loop-rest : goal.decreases-loop-rest
decreases-loop-rest l = length l.rest
