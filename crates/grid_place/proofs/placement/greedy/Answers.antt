use Rattle.std.proofs.Common.{subst, sym}
use Rattle.grid_place.specs.Moves.{IsPermutation}
use Rattle.grid_place.proofs.Shuffles.{in_place_permutes}
use Rattle.grid_place.proofs.placement.greedy.Goals as goal

pub loop-k-init : goal.loop-k-init
loop-k-init c = subst IsPermutation (sym c.in_place.ensures.value) in_place_permutes
