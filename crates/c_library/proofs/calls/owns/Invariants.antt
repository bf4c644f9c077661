use Rattle.std.proofs.Common.{◌≡◌, ◌≤◌, ◌+◌, length}
use Rattle.c_library.specs.Calls.{owns}
use Rattle.c_library.proofs.calls.owns.Given as goal

abbrev pub invariant-loop-rest : goal.invariant-loop-rest
invariant-loop-rest l = record {
  value : owns l.fn.name 0 l.fn.tokens ≡ owns l.name l.depth l.rest;
  few : l.depth + length l.rest ≤ l.count;
}

abbrev pub decreases-loop-rest : goal.decreases-loop-rest
decreases-loop-rest l = length l.rest
