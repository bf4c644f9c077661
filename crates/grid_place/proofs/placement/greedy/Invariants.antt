use Rattle.grid_place.specs.Moves.{IsPermutation}
use Rattle.grid_place.proofs.placement.greedy.Given as goal

abbrev pub invariant-loop-k : goal.invariant-loop-k
invariant-loop-k l = IsPermutation l.to
