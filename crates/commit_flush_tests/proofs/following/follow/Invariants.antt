-- the machine beside the window keeps its budget
use Rattle.std.specs.Prelude.{◌≡◌}
use Rattle.commit_flush_tests.proofs.following.follow.Given as goal

abbrev pub invariant-loop-commit : goal.invariant-loop-commit
invariant-loop-commit g l = l.arch.budget ≡ l.window.budget
