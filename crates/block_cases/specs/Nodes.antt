-- How often places are named, and chains of edges that come back. Own: that a chain that comes back is
-- a fault (docs/MACHINE.md, "Good blocks").
use Rattle.std.specs.Prelude.{ℕ, ◌+◌, Bool, true, false, ◌==◌, List, [], ◌∷◌}
use Rattle.trips_isa.specs.declared.node.Node.{Node}
pub use Rattle.trips_isa.specs.Places.{targets, names}
pub use Rattle.trips_isa.specs.Tables.{stores_below, feeds, Edge, Ranked, IsRanked}

-- 1 where it is so, else 0
abbrev pub one_if : Bool → ℕ
one_if true = 1
one_if false = 0

-- how often place q is among some places
abbrev pub hits : List ℕ → ℕ → ℕ
hits [] q = 0
hits (t ∷ ts) q = one_if (t == q) + hits ts q

-- a chain of one or more edges from a node to another
pub data Walk (ns : List Node) : ℕ → ℕ → Type 0 where
  Step : {x y : ℕ} → Edge ns x y → Walk ns x y
  Then : {x y z : ℕ} → Edge ns x y → Walk ns y z → Walk ns x z

-- a chain of edges comes back to the node from which it goes out
abbrev pub HasCycle : List Node → Type 0
HasCycle ns = (x : ℕ) × Walk ns x x
