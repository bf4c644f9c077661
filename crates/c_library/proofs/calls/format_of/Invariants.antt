use Rattle.std.proofs.Common.{◌≡◌, ◌++◌, length}
use Rattle.c_library.specs.Calls.{format_of}
use Rattle.c_library.proofs.calls.format_of.Given as goal

abbrev pub invariant-loop-rest : goal.invariant-loop-rest
invariant-loop-rest l = format_of l.fn.values ≡ l.format ++ format_of l.rest

abbrev pub decreases-loop-rest : goal.decreases-loop-rest
decreases-loop-rest l = length l.rest
