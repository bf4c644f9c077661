use Rattle.std.proofs.Common.{subst, sym}
use Rattle.grid_place.specs.Moves.{IsPermutation}
use Rattle.grid_place.proofs.Shuffles.{seeded_permutes}
use Rattle.grid_place.proofs.placed.permute.Goals as goal

pub returns-in-Seeded-clause-permutes : goal.returns-in-Seeded-clause-permutes
returns-in-Seeded-clause-permutes c =
    subst IsPermutation (sym c.seeded.ensures.value) (seeded_permutes c.in-Seeded.seed)
