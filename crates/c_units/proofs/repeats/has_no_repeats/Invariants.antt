use Rattle.std.proofs.Common.{◌≡◌, ◌≤◌, ◌+◌, length}
use Rattle.c_units.specs.Repeats.{beginning, no_repeats_from}
use Rattle.c_units.proofs.repeats.has_no_repeats.Given as goal

abbrev pub invariant-loop-rest : goal.invariant-loop-rest
invariant-loop-rest l = record {
  value : no_repeats_from beginning l.fn.tokens ≡ no_repeats_from l.seen l.rest;
  few : l.seen.depth + length l.rest ≤ l.size;
}

abbrev pub decreases-loop-rest : goal.decreases-loop-rest
decreases-loop-rest l = length l.rest
