use Rattle.std.proofs.Common.{◌≡◌}
use Rattle.c_compile_tests.proofs.room_tests.ending.Given as goal

-- the machine's budget is the run's
abbrev pub invariant-loop-turn : goal.invariant-loop-turn
invariant-loop-turn g l = l.arch.budget ≡ l.budget
