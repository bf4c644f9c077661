use Rattle.std.proofs.Common.{◌≡◌, ◌≤◌, ◌-◌, ℕ, false}
use Rattle.block_cases.specs.Cases.{bit}
use Rattle.block_check.specs.inside.Pass.{tok_at, AbsentFrom, once, rounds_from}
use Rattle.block_check.proofs.pass.settle.Given as goal
use Rattle.trips_isa.specs.Limits.{most_nodes}

abbrev pub invariant-loop-changed : goal.invariant-loop-changed
invariant-loop-changed l = record {
  few : l.rounds ≤ most_nodes;
  answers : (x : ℕ) → tok_at l.toks x ≡ rounds_from l.nodes (bit l.bits) (tok_at l.initial.toks)
      l.rounds x;
  rest : AbsentFrom l.used l.toks;
  stable : l.changed ≡ false → (x : ℕ) → tok_at l.toks x ≡ once l.nodes (bit l.bits) (tok_at
      l.toks) x;
}

abbrev pub decreases-loop-changed : goal.decreases-loop-changed
decreases-loop-changed l = most_nodes - l.rounds
