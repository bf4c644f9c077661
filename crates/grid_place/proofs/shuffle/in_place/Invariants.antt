use Rattle.std.proofs.Common.{◌≡◌, ◌<◌, ℕ, get_or}
use Rattle.grid_place.proofs.shuffle.in_place.Given as goal

abbrev pub invariant-loop-i : goal.invariant-loop-i
invariant-loop-i l = (k d : ℕ) → k < l.i → get_or l.to k d ≡ k
