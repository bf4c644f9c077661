use Rattle.std.proofs.Common.{◌≡◌, ◌-◌, ◌++◌, replicate}
use Rattle.flat_lower.proofs.globals.put_zeros.Given as goal

abbrev pub invariant-loop-i : goal.invariant-loop-i
invariant-loop-i l = l.bytes ++ replicate (l.count - l._i) 0 ≡ l.fn.bytes ++ replicate l.count 0
