-- What a placing says of where each slot goes.
use Rattle.std.specs.Prelude.{◌≡◌, ℕ, List}
use Rattle.grid_place.specs.declared.placed.Placing.{Placing}
use Rattle.grid_place.specs.declared.placed.Placing.TheVariants.{Greedy, Seeded}
use Rattle.grid_place.specs.Moves.{IsPermutation}
use Rattle.grid_place.specs.Seeded.{seeded}

-- whether a list of where each slot goes is one of a placing: by a seed its shuffle alone, and else any permutation
abbrev pub IsPlacing : Placing → List ℕ → Type 0
IsPlacing Greedy to = IsPermutation to
IsPlacing (Seeded seed) to = to ≡ seeded seed
