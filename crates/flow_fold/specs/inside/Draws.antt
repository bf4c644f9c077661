-- Sources that take what stands behind copies; and a step of the pass *fold*: each write takes what the copies that it
-- takes copy.
use Rattle.std.specs.Prelude.{ℕ, nat_eq, Bool, true, false, ◌&&◌, ◌||◌, not, cond, List, [], ◌∷◌, ◌++◌}
use Rattle.std.specs.Prelude.{map, Option, Some, None, slice_get, length}
use Rattle.ir_forms.specs.declared.flow.FlowSource.{FlowSource}
use Rattle.ir_forms.specs.declared.flow.FlowSource.TheVariants.{Read, Node}
use Rattle.ir_forms.specs.declared.flow.Guard.{Guard}
use Rattle.ir_forms.specs.declared.flow.FlowNode.{FlowNode}
use Rattle.ir_forms.specs.declared.flow.FlowWrite.{FlowWrite}
use Rattle.ir_forms.specs.declared.flow.FlowBlock.{FlowBlock}
use Rattle.flow_fold.specs.inside.Copies.{is_mov, covers, guard_of}

-- whether a copy of a source other than node j, under this guard, gives the source's token wherever there is one: it
-- has no guard, or that of the source
abbrev pub echoes : List FlowNode → ℕ → Option Guard → FlowSource → Bool
echoes nodes j a (Read r) = covers a None
echoes nodes j a (Node i) = not (nat_eq i j) && covers a (guard_of (slice_get nodes i))

-- whether it does so of all sources
abbrev pub all_echo : List FlowNode → ℕ → Option Guard → List FlowSource → Bool
all_echo nodes j a [] = true
all_echo nodes j a (x ∷ rest) = echoes nodes j a x && all_echo nodes j a rest

-- whether a node is marked
abbrev pub is_marked : Option Bool → Bool
is_marked None = false
is_marked (Some b) = b

-- whether a node copies, and gives the tokens of all that it takes
abbrev pub copies_all : List FlowNode → ℕ → FlowNode → Bool
copies_all nodes j c = is_mov c.op && all_echo nodes j c.guard c.left

-- what a node that there is copies, unless it is marked; else s
abbrev pub behind_at : List FlowNode → ℕ → Bool → FlowSource → Option FlowNode → List FlowSource
behind_at nodes j stays s None = s ∷ []
behind_at nodes j stays s (Some c) = cond (not stays && copies_all nodes j c) c.left (s ∷ [])

-- what stands behind a source, of which node j is not looked at: what it copies, unless that is marked, or else itself
abbrev pub behind : List FlowNode → List Bool → ℕ → FlowSource → List FlowSource
behind nodes marks j (Read r) = Read r ∷ []
behind nodes marks j (Node k) =
    behind_at nodes j (nat_eq k j || is_marked (slice_get marks k)) (Node k) (slice_get nodes k)

-- what stands behind some sources
abbrev pub all_behind : List FlowNode → List Bool → ℕ → List FlowSource → List FlowSource
all_behind nodes marks j [] = []
all_behind nodes marks j (s ∷ rest) = behind nodes marks j s ++ all_behind nodes marks j rest

-- a write that takes what stands behind its sources
abbrev pub drawn_write : List FlowNode → List Bool → FlowWrite → FlowWrite
drawn_write nodes marks w = record w { sources = all_behind nodes marks (length nodes) w.sources }

-- a block with other writes
abbrev pub with_writes : FlowBlock → List FlowWrite → FlowBlock
with_writes f ws = record f { writes = ws }

-- a block whose writes do
abbrev pub drawn : List Bool → FlowBlock → FlowBlock
drawn marks f = with_writes f (map (drawn_write f.nodes marks) f.writes)
