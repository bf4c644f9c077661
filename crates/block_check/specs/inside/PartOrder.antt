-- Nodes that are put in an order, each after those that feed it. The rank of a node that is not
-- placed is 255.
use Rattle.std.specs.Prelude.{◌≡◌, ℕ, ◌+◌, ◌<◌, ◌≤◌, Bool, true, false, ◌==◌, List, [], ◌∷◌, Some}
use Rattle.std.specs.Prelude.{length, slice_index, slice_get, All}
use Rattle.trips_isa.specs.declared.node.Node.{Node}
use Rattle.block_cases.specs.Nodes.{feeds, one_if, Edge, Ranked}
use Rattle.block_cases.specs.declared.token.CaseToken.{CaseToken}
use Rattle.block_cases.specs.declared.token.CaseToken.TheVariants.{Absent, Null}
use Rattle.block_cases.specs.Cases.{tokens}
use Rattle.block_check.specs.inside.Walk.{Order}

-- how many nodes are not placed
abbrev pub unplaced : List ℕ → ℕ
unplaced [] = 0
unplaced (r ∷ rs) = one_if (r == 255) + unplaced rs

-- a node that is not placed feeds this one
pub record Stuck (ns : List Node) (ranks : List ℕ) (n : Node) : Type 0 where
  -- the node that feeds it, by its number
  pub source : ℕ
  pub node : Node
  pub is_node : slice_get ns source ≡ Some node
  pub waits : slice_index ranks source ≡ 255
  pub fed : feeds node n ≡ true

-- node x has a rank, and stands in the order at it
pub record Placed (ns : List Node) (ranks order : List ℕ) (x : ℕ) (placed : ℕ) : Type 0 where
  pub below : slice_index ranks x < placed
  pub there : slice_index order (slice_index ranks x) ≡ x

-- an order along the edges of `placed` of the nodes
pub record PartOrder (ns : List Node) (ranks order : List ℕ) (placed : ℕ) : Type 0 where
  -- the rank of each node by its number, and the node at each rank
  pub ranks_size : length ranks ≡ length ns
  pub order_size : length order ≡ length ns
  -- a node with a rank stands in the order at it
  pub ranked : (x : ℕ) → x < length ns → slice_index ranks x < 255 → Placed ns ranks order x placed
  -- a rank is below 255, or says that the node is not placed
  pub either : (x : ℕ) → slice_index ranks x ≤ 255
  -- the first `placed` entries of the order are nodes, each at its own rank
  pub in_order : (k : ℕ) → k < placed → slice_index order k < length ns
  pub ordered : (k : ℕ) → k < placed → slice_index ranks (slice_index order k) ≡ k
  -- what feeds a placed node is placed, and before it
  pub rises : (x y : ℕ) → Edge ns x y → slice_index ranks y < 255 →
      slice_index ranks x < slice_index ranks y
  -- all others are left
  pub left : placed + unplaced ranks ≡ length ns

-- each node that is not placed waits for another one
abbrev pub AllStuck : List Node → List ℕ → ℕ → Type 0
AllStuck ns ranks end = (x : ℕ) (n : Node) → x < end → slice_get ns x ≡ Some n →
    slice_index ranks x ≡ 255 → Stuck ns ranks n

-- an order of all nodes along their edges
abbrev pub IsOrdered : List Node → List ℕ → Type 0
IsOrdered ns order = (rank : ℕ → ℕ) × Ranked ns rank × Order ns rank order
    × All (λ x. x < length ns) order

-- what a node that is not placed holds up
abbrev pub holding : Bool → CaseToken
holding true = Null
holding false = Absent

-- what each node that is not placed holds up
abbrev pub waiting : List ℕ → ℕ → CaseToken
waiting ranks y = holding (slice_index ranks y == 255)

-- how many targets of nodes that are not placed name each place
abbrev pub Counting : List Node → List ℕ → List ℕ → Type 0
Counting ns ranks counts = (q : ℕ) → q < 768 → slice_index counts q ≡ tokens ns (waiting ranks) q
