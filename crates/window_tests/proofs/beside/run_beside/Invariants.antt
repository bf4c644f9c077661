-- the machine keeps its budget
use Rattle.std.specs.Prelude.{◌≡◌}
use Rattle.window_tests.proofs.beside.run_beside.Given as goal

abbrev pub invariant-loop-turn : goal.invariant-loop-turn
invariant-loop-turn g l = l.arch.budget ≡ l.budget
