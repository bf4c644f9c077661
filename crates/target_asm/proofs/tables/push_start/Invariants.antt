use Rattle.std.proofs.Common.{◌≡◌, ◌++◌, ◌-◌, replicate}
use Rattle.target_asm.proofs.tables.push_start.Given as goal

-- a zero for each chunk so far but the first
abbrev pub invariant-loop : goal.invariant-loop
invariant-loop l = l.starts.items ≡ l.initial.starts.items ++ replicate (l.counter - 1) 0
