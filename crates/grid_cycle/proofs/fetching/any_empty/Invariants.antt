use Rattle.std.proofs.Common.{◌≡◌, ℕ, ◌<◌, true}
use Rattle.grid_cycle.specs.inside.Follows.{is_taken}
use Rattle.grid_cycle.proofs.fetching.any_empty.Given as goal

abbrev pub invariant-loop-frame : goal.invariant-loop-frame
invariant-loop-frame g l = (j : ℕ) → j < l.frame → is_taken l.filled (g.V.Windows.held l.window).frames j ≡ true
