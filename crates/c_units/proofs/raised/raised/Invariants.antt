use Rattle.std.proofs.Common.{◌≡◌, ◌≤◌, ◌+◌, length}
use Rattle.c_units.specs.Raised.{beginning, run}
use Rattle.c_units.proofs.raised.raised.Given as goal

abbrev pub invariant-loop-rest : goal.invariant-loop-rest
invariant-loop-rest l = record {
  value : run beginning l.fn.tokens ≡ run l.state l.rest;
  depth : l.state.place.depth + length l.rest ≤ l.size;
  parens : l.state.parens + length l.rest ≤ l.size;
}

abbrev pub decreases-loop-rest : goal.decreases-loop-rest
decreases-loop-rest l = length l.rest
