use Rattle.std.proofs.Common.{◌≤◌, All}
use Rattle.c_compile.proofs.attempts.attempts.Given as goal

-- of none more than are wanted
abbrev pub invariant-loop-at : goal.invariant-loop-at
invariant-loop-at l = All (λ t. t ≤ l.copies) l.times
