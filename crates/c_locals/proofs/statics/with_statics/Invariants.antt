use Rattle.std.proofs.Common.{◌≡◌, ◌≤◌, ◌+◌, length}
use Rattle.c_locals.specs.Statics.{run}
use Rattle.c_locals.specs.States.{beginning}
use Rattle.c_locals.proofs.statics.with_statics.Given as goal

abbrev pub invariant-loop-rest : goal.invariant-loop-rest
invariant-loop-rest l = record {
  value : run beginning l.fn.tokens ≡ run l.state l.rest;
  count : l.state.count + length l.rest ≤ l.size;
  blocks : l.state.blocks + length l.rest ≤ l.size;
  parens : l.state.parens + length l.rest ≤ l.size;
  depth : l.state.depth + length l.rest ≤ l.size;
}

abbrev pub decreases-loop-rest : goal.decreases-loop-rest
decreases-loop-rest l = length l.rest
