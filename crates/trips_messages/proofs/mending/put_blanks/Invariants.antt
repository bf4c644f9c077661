use Rattle.std.proofs.Common.{◌≡◌, ◌++◌, replicate}
use Rattle.trips_messages.proofs.mending.put_blanks.Given as goal

-- the blanks so far are written
abbrev pub invariant-loop-i : goal.invariant-loop-i
invariant-loop-i l = l.out.items ≡ l.initial.out.items ++ replicate l._i 32
