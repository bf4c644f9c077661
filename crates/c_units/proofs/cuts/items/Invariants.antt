use Rattle.std.proofs.Common.{◌≡◌, ◌≤◌, ◌+◌, length}
use Rattle.c_units.specs.Cuts.{beginning, cut}
use Rattle.c_units.proofs.cuts.items.Given as goal

abbrev pub invariant-loop-rest : goal.invariant-loop-rest
invariant-loop-rest l = record {
  value : cut beginning l.fn.tokens ≡ cut l.cut l.rest;
  few : l.cut.place.depth + length l.rest ≤ l.size;
}

abbrev pub decreases-loop-rest : goal.decreases-loop-rest
decreases-loop-rest l = length l.rest
