use Rattle.std.proofs.Common.{◌≡◌, ◌≤◌}
use Rattle.grid_place.specs.Seeded.{shuffled, seeded}
use Rattle.grid_place.proofs.shuffle.seeded.Given as goal

abbrev pub invariant-loop-i : goal.invariant-loop-i
invariant-loop-i l = (l.i ≤ 127) × (shuffled l.i l.generator l.to ≡ seeded l.seed)

abbrev pub decreases-loop-i : goal.decreases-loop-i
decreases-loop-i l = l.i
