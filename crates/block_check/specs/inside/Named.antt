-- The places that some nodes name.
use Rattle.std.specs.Prelude.{◌≡◌, ℕ, ◌<◌, Bool, true, false, ◌||◌, List, [], ◌∷◌}
use Rattle.trips_isa.specs.declared.node.Node.{Node}
use Rattle.trips_isa.specs.PlaceNumbers.{place_count}
use Rattle.block_cases.specs.Nodes.{targets, names}
use Rattle.block_cases.specs.Cases.{bit}

-- whether a node names place q
abbrev pub named : List Node → ℕ → Bool
named [] q = false
named (m ∷ ms) q = names (targets m) q || named ms q

-- each place that no node names is marked
abbrev pub Freed : List Node → List Bool → Type 0
Freed ns none = (q : ℕ) → q < place_count → named ns q ≡ false → bit none q ≡ true
