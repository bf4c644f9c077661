use Rattle.grid_place.proofs.Shuffles.{seeded_permutes}
use Rattle.grid_place.proofs.law.seeds_give_permutations.Goals as goal

pub returns : goal.returns
returns v = seeded_permutes
