use Rattle.std.proofs.Common.{◌≤◌, All}
use Rattle.c_compile.proofs.copies.lessen_all.Given as goal

-- of none more than are wanted
abbrev pub invariant-loop-block : goal.invariant-loop-block
invariant-loop-block l = All (λ t. t ≤ l.copies) l.times
