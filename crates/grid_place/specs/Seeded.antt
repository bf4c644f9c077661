-- The permutation of a seed (Fisher and Yates' shuffle, by a Pcg32).
use Rattle.std.specs.Prelude.{ℕ, zero, suc, ◌+◌, ◌%◌, List, [], ◌∷◌}
use Rattle.std.specs.List.{swap}
use Rattle.rand_pcg.specs.Lcg.{Lcg, started, increment_of}
use Rattle.rand_pcg.specs.Pcg.{multiplier_64, pcg32}

-- n numbers from k on
abbrev pub counted : ℕ → ℕ → List ℕ
counted k zero = []
counted k (suc n) = k ∷ counted (suc k) n

-- each slot stays
unfoldable pub in_place : List ℕ
in_place = counted 0 128

-- for each number from i down to 1, the entry there and the one that the next word names among
-- those up to it are exchanged
unfoldable pub shuffled : ℕ → Lcg → List ℕ → List ℕ
shuffled zero g p = p
shuffled (suc i) g p = shuffled i (pcg32 g).1 (swap p (suc i) ((pcg32 g).0 % (suc i + 1)))

-- the generator of a seed, of stream 3
unfoldable pub generator : ℕ → Lcg
generator seed = started 64 multiplier_64 seed (increment_of 64 3)

-- where each slot goes by a seed
unfoldable pub seeded : ℕ → List ℕ
seeded seed = shuffled 127 (generator seed) in_place
