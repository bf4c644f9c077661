-- The search over the cases in an order of the nodes.
use Rattle.std.specs.Prelude.{◌≡◌, ℕ, zero, suc, ◌+◌, ◌<◌, ◌≤◌, Bool, true, false, List, [], ◌∷◌}
use Rattle.std.specs.Prelude.{◌++◌, slice_set, length}
use Rattle.trips_isa.specs.declared.node.Node.{Node}
use Rattle.block_cases.specs.Nodes.{names, one_if}
use Rattle.block_cases.specs.Cases.{has_bit}

-- both walks where a node has a bit, else the first
abbrev pub branch : Bool → List (List Bool) → List (List Bool) → List (List Bool)
branch true a b = a ++ b
branch false a b = a

-- the cases that agree with c but on the nodes that are left, where c gives these no bit
abbrev pub walk : List Node → List ℕ → List Bool → List (List Bool)
walk ns [] c = c ∷ []
walk ns (x ∷ xs) c = branch (has_bit ns c x) (walk ns xs c) (walk ns xs (slice_set c x true))

-- how many of the cases pass a test
abbrev pub tally : (List Bool → Bool) → List (List Bool) → ℕ
tally t [] = 0
tally t (c ∷ cs) = one_if (t c) + tally t cs

-- an order along the ranks, without repeats
abbrev pub Sorted : (ℕ → ℕ) → List ℕ → Type 0
Sorted rank [] = Unit {0}
Sorted rank (x ∷ xs) = ((z : ℕ) → names xs z ≡ true → rank x ≤ rank z) × (names xs x ≡ false)
    × Sorted rank xs

-- n bits that are 0
abbrev pub zeros : ℕ → List Bool
zeros zero = []
zeros (suc n) = false ∷ zeros n

-- an order of all nodes
pub record Order (ns : List Node) (rank : ℕ → ℕ) (order : List ℕ) : Type 0 where
  -- no node stands before one of a lower rank, and none stands twice
  pub sorted : Sorted rank order
  -- each node is in it
  pub whole : (x : ℕ) → x < length ns → names order x ≡ true
