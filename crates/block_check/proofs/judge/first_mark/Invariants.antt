use Rattle.std.proofs.Common.{◌≡◌, ◌<◌, ℕ, false}
use Rattle.block_cases.specs.Cases.{bit}
use Rattle.block_check.proofs.judge.first_mark.Given as goal

abbrev pub invariant-loop-q : goal.invariant-loop-q
invariant-loop-q l = (p : ℕ) → p < l.q → bit l.marks p ≡ false
