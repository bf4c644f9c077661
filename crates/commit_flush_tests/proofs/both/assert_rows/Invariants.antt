-- the machine beside the window has its budget
use Rattle.std.specs.Prelude.{◌≡◌}
use Rattle.commit_flush_tests.proofs.both.assert_rows.Given as goal

abbrev pub invariant-loop-row : goal.invariant-loop-row
invariant-loop-row g l = l.arch.budget ≡ l.window.budget
