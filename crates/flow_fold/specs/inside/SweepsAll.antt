-- The pass *sweep*: all nodes that nothing which stays names go at once, and the others are numbered anew.
use Rattle.std.specs.Prelude.{◌≡◌, ℕ, zero, suc, ◌-◌, ◌≤◌, nat_lt, Bool, true, ◌&&◌, ◌||◌, cond, List, []}
use Rattle.std.specs.Prelude.{◌∷◌, ◌++◌, map, length, Option, Some, None, slice_get}
use Rattle.ir_forms.specs.declared.flow.FlowSource.{FlowSource}
use Rattle.ir_forms.specs.declared.flow.FlowSource.TheVariants.{Read, Node}
use Rattle.ir_forms.specs.declared.flow.Guard.{Guard}
use Rattle.ir_forms.specs.declared.flow.FlowNode.{FlowNode}
use Rattle.ir_forms.specs.declared.flow.FlowWrite.{FlowWrite}
use Rattle.ir_forms.specs.declared.flow.FlowBlock.{FlowBlock}
use Rattle.flow_fold.specs.inside.Sweeps.{is_idle, takes_all}

-- WHAT STAYS

-- whether a node stays, by what a list says of it
abbrev pub stays_by : Option Bool → Bool
stays_by None = true
stays_by (Some b) = b

-- whether node j stays: a node of which a list says nothing does
abbrev pub stays : List Bool → ℕ → Bool
stays keeps j = stays_by (slice_get keeps j)

-- the number of node j once the nodes that go are gone: as many stay below it
abbrev pub number : (ℕ → Bool) → ℕ → ℕ
number s zero = 0
number s (suc j) = cond (s j) (suc (number s j)) (number s j)

-- A BLOCK BY NEW NUMBERS

-- a source by its new number
abbrev pub by_source : (ℕ → ℕ) → FlowSource → FlowSource
by_source v (Read r) = Read r
by_source v (Node j) = Node (v j)

-- a guard by its new number
abbrev pub by_guard : (ℕ → ℕ) → Option Guard → Option Guard
by_guard v None = None
by_guard v (Some g) = Some (record g { node = v g.node })

-- a node that names all by their new numbers
abbrev pub by_node : (ℕ → ℕ) → FlowNode → FlowNode
by_node v n = record n {
  guard = by_guard v n.guard;
  left = map (by_source v) n.left;
  right = map (by_source v) n.right;
}

-- a write that does
abbrev pub by_write : (ℕ → ℕ) → FlowWrite → FlowWrite
by_write v w = record w { sources = map (by_source v) w.sources }

-- of some nodes, the first of which is node j, those that stay, by their new numbers
abbrev pub staying : (ℕ → ℕ) → (ℕ → Bool) → ℕ → List FlowNode → List FlowNode
staying v s j [] = []
staying v s j (n ∷ rest) = cond (s j) (by_node v n ∷ staying v s (suc j) rest) (staying v s (suc j) rest)

-- a block of the nodes that stay, by any numbers
abbrev pub numbered_block : (ℕ → ℕ) → (ℕ → Bool) → FlowBlock → FlowBlock
numbered_block v s f = record f {
  nodes = staying v s 0 f.nodes;
  writes = map (by_write v) f.writes;
}

-- a block of the nodes that stay
abbrev pub kept : (ℕ → Bool) → FlowBlock → FlowBlock
kept s f = numbered_block (number s) s f

-- WHAT MAY GO AT ONCE

-- whether a source stays, or is a node below a bound
abbrev pub may_name : (ℕ → Bool) → ℕ → FlowSource → Bool
may_name s top (Read r) = true
may_name s top (Node i) = s i || nat_lt i top

-- whether each of some sources does
abbrev pub may_name_all : (ℕ → Bool) → ℕ → List FlowSource → Bool
may_name_all s top [] = true
may_name_all s top (x ∷ rest) = may_name s top x && may_name_all s top rest

-- whether the node of a guard does
abbrev pub may_guard : (ℕ → Bool) → ℕ → Option Guard → Bool
may_guard s top None = true
may_guard s top (Some g) = may_name s top (Node g.node)

-- whether all that a node names does
abbrev pub names_only : (ℕ → Bool) → ℕ → FlowNode → Bool
names_only s top n = may_name_all s top n.left && (may_name_all s top n.right && may_guard s top n.guard)

-- whether node j is as it may be: where it stays it names what stays; where it goes it only gives a token, and names
-- beside what stays only nodes below it
abbrev pub node_may : (ℕ → Bool) → ℕ → FlowNode → Bool
node_may s j n = cond (s j) (names_only s 0 n) (is_idle n.op && names_only s j n)

-- whether each of some nodes is, the first of which is node j
abbrev pub nodes_may : (ℕ → Bool) → ℕ → List FlowNode → Bool
nodes_may s j [] = true
nodes_may s j (n ∷ rest) = node_may s j n && nodes_may s (suc j) rest

-- whether writes name only what stays
abbrev pub writes_may : (ℕ → Bool) → List FlowWrite → Bool
writes_may s [] = true
writes_may s (w ∷ rest) = may_name_all s 0 w.sources && writes_may s rest

-- whether the nodes that do not stay may go
abbrev pub may_sweep : (ℕ → Bool) → FlowBlock → Bool
may_sweep s f = nodes_may s 0 f.nodes && writes_may s f.writes

-- g is f without the nodes that go
pub record SweepsAll (f g : FlowBlock) : Type 0 where
  -- for each node, from the first on, whether it stays
  pub keeps : List Bool
  pub within : length keeps ≤ length f.nodes
  pub may : may_sweep (stays keeps) f ≡ true
  pub becomes : g ≡ kept (stays keeps) f
  -- each register that is read is still taken
  pub taken : takes_all g f.reads ≡ true

-- A TABLE OF THE NEW NUMBERS

-- the new numbers of the nodes below j
abbrev pub numbers_to : (ℕ → Bool) → ℕ → List ℕ
numbers_to s zero = []
numbers_to s (suc j) = numbers_to s j ++ number s j ∷ []

-- a number by what a table has of it; where it has nothing, so many nodes below go
abbrev pub number_by : Option ℕ → ℕ → ℕ → ℕ
number_by None less j = j - less
number_by (Some i) less j = i

-- the new number of node j by a table
abbrev pub tabled : List ℕ → ℕ → ℕ → ℕ
tabled table less j = number_by (slice_get table j) less j
