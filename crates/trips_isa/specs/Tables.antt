-- Tables of tokens: one for each node, by the rule, from the tokens that its producers give. Own
-- (docs/MACHINE.md, "Places"): the machine pushes tokens to consumers; here a node pulls from its
-- producers.
use Rattle.std.specs.Prelude.{◌≡◌, ℕ, suc, ◌+◌, ◌<◌, Bool, true, false, ◌&&◌, ◌||◌, nat_le}
use Rattle.std.specs.Prelude.{nat_lt, List, [], ◌∷◌, Option, Some, None, slice_get}
use Rattle.trips_isa.specs.declared.node.Node.{Node}
use Rattle.trips_isa.specs.PlaceNumbers.{first_store}
use Rattle.trips_isa.specs.Rule.{Answer, rule}
use Rattle.trips_isa.specs.Places.{targets, names}
use Rattle.trips_isa.specs.Limits.{most_nodes}

-- only what is named is asked
abbrev pub taken : {A : Type 0} → Bool → (ℕ → Option A) → Option A
taken true f = f 0
taken false f = None

-- the first of two things that is there
abbrev pub or_else : {A : Type 0} → Option A → Option A → Option A
or_else None u = u
or_else (Some t) u = Some t

-- what the lowest node gives that names the place and gives something, where f says what each node
-- gives; reads come before slots
abbrev pub first : {A : Type 0} → List Node → ℕ → (ℕ → Option A) → Option A
first [] q f = None
first (n ∷ ns) q f = or_else (taken (names (targets n) q) f) (first ns q (λ y. f (suc y)))

-- the token of a node, where `pull` says what stands at each place and `a` what the node computes
abbrev pub node_gives : Option Node → (ℕ → ℕ → ℕ) → (ℕ → Answer) → Answer
node_gives None a pull = None
node_gives (Some n) a pull = rule n.role n.sense a (pull n.slot) (pull (128 + n.slot))
    (pull (256 + n.slot))

-- what each node computes of the words at its operands
abbrev pub Computes : Type 0
Computes = ℕ → ℕ → ℕ → ℕ

-- deeper than any chain of a block without a cycle, which has `most_nodes` nodes; not an `abbrev`, since
-- it would unroll in each goal
unfoldable pub deepest : ℕ
deepest = most_nodes

-- edges: from a producer to a consumer, and from a store to each load of a higher number -------

-- whether some places have a store number below the place m
abbrev pub stores_below : List ℕ → ℕ → Bool
stores_below [] m = false
stores_below (t ∷ ts) m = (nat_le first_store t && nat_lt t m) || stores_below ts m

-- whether node m feeds node n: it names an operand or the predicate of n, or is a store that n sees
abbrev pub feeds : Node → Node → Bool
feeds m n = names (targets m) n.slot || (names (targets m) (128 + n.slot) ||
    (names (targets m) (256 + n.slot) || stores_below (targets m) n.below))

-- an edge from node x to node y: x feeds y
pub record Edge (ns : List Node) (x y : ℕ) : Type 0 where
  pub source : Node
  pub target : Node
  pub is_source : slice_get ns x ≡ Some source
  pub is_target : slice_get ns y ≡ Some target
  -- the first names a place that the second takes, or is a store that the second, a load, sees
  pub fed : feeds source target ≡ true

-- an order of the nodes along the edges
pub record Ranked (ns : List Node) (rank : ℕ → ℕ) : Type 0 where
  -- what feeds a node stands before it
  pub rises : (x y : ℕ) → Edge ns x y → rank x < rank y
  -- so that no chain of edges is longer than `deepest`
  pub below : (x : ℕ) → rank x < most_nodes

-- the nodes stand in some order along the edges
abbrev pub IsRanked : List Node → Type 0
IsRanked ns = (rank : ℕ → ℕ) × Ranked ns rank
