use Rattle.std.proofs.Common.{◌≡◌, ◌<◌, ℕ, false, true}
use Rattle.block_cases.specs.Cases.{bit}
use Rattle.block_check.proofs.judge.first_wanted.Given as goal

abbrev pub invariant-loop-q : goal.invariant-loop-q
invariant-loop-q l = (p : ℕ) → p < l.q → bit l.wanted p ≡ true → bit l.marks p ≡ false
