-- Which covers are wanted, and the block that the pass gives.
use Rattle.std.specs.Prelude.{ℕ, suc, Bool, true, false, not, cond, ◌&&◌, ◌||◌, List}
use Rattle.std.specs.Prelude.{[], ◌∷◌, get_or, slice_set, Option, Some, None}
use Rattle.trips_isa.specs.declared.form.Form.{Form}
use Rattle.trips_isa.specs.declared.form.Form.TheVariants.{Store}
use Rattle.trips_isa.specs.Forms.{form_of}
use Rattle.ir_forms.specs.declared.flow.FlowSource.{FlowSource}
use Rattle.ir_forms.specs.declared.flow.FlowSource.TheVariants.{Read, Node}
use Rattle.ir_forms.specs.declared.flow.Guard.{Guard}
use Rattle.ir_forms.specs.declared.flow.FlowNode.{FlowNode}
use Rattle.ir_forms.specs.declared.flow.FlowWrite.{FlowWrite}
use Rattle.ir_forms.specs.declared.flow.FlowBlock.{FlowBlock}
use Rattle.null_outputs.specs.inside.Completed.{completed}
use Rattle.null_outputs.specs.inside.Covers.{Sure, Want, left_open, right_open}
use Rattle.null_outputs.specs.inside.Groups.{number_open}
use Rattle.null_outputs.specs.inside.Surely.{firm_of, sure_by}

-- WHICH COVERS ARE WANTED

-- one more node is wanted
abbrev pub mark : List Bool → ℕ → List Bool
mark ws j = slice_set ws j true

-- the node of a source is wanted
abbrev pub mark_source : List Bool → FlowSource → List Bool
mark_source ws (Read r) = ws
mark_source ws (Node j) = mark ws j

-- the nodes of all sources of a list are
abbrev pub mark_all : List Bool → List FlowSource → List Bool
mark_all ws [] = ws
mark_all ws (s ∷ ss) = mark_all (mark_source ws s) ss

-- the node of a guard is
abbrev pub mark_guard : List Bool → Option Guard → List Bool
mark_guard ws None = ws
mark_guard ws (Some g) = mark ws g.node

-- those of a list are, where t is true
abbrev pub mark_if : Bool → List Bool → List FlowSource → List Bool
mark_if t ws ss = cond t (mark_all ws ss) ws

-- what the cover of a node wants
abbrev pub mark_node : Sure → List Bool → FlowNode → List Bool
mark_node sure ws n =
    mark_if (right_open sure n) (mark_if (left_open sure n) (mark_guard ws n.guard) n.left) n.right

-- what the cover of node j wants, where it is wanted itself
abbrev pub spread_at : Sure → ℕ → FlowNode → List Bool → List Bool
spread_at sure j n ws = cond (get_or ws j false) (mark_node sure ws n) ws

-- from the last node to the first, so that a block whose sources come first is done in one pass
abbrev pub spread : Sure → List Bool → ℕ → List FlowNode → List Bool
spread sure ws j [] = ws
spread sure ws j (n ∷ rest) = spread_at sure j n (spread sure ws (suc j) rest)

-- the sources of a write that may get no token are wanted
abbrev pub mark_writes : Sure → List Bool → List FlowWrite → List Bool
mark_writes sure ws [] = ws
mark_writes sure ws (w ∷ rest) =
    mark_writes sure (mark_if (not (sure None w.sources)) ws w.sources) rest

-- whether a node is a store whose number may get none
abbrev pub is_open_store : Sure → FlowBlock → Form → FlowNode → Bool
is_open_store sure b Store n = number_open sure b n.number
is_open_store sure b _ n = false

-- of each node, whether it is a store whose number may get none
abbrev pub open_stores : Sure → FlowBlock → List FlowNode → List Bool
open_stores sure b [] = []
open_stores sure b (n ∷ rest) = is_open_store sure b (form_of n.op) n ∷ open_stores sure b rest

-- A pass finds what is wanted, and a test says whether it found all; else all is wanted.
abbrev pub source_wanted : Want → FlowSource → Bool
source_wanted want (Read r) = true
source_wanted want (Node j) = want j

-- whether all nodes of a list are wanted
abbrev pub each_wanted : Want → List FlowSource → Bool
each_wanted want [] = true
each_wanted want (s ∷ ss) = source_wanted want s && each_wanted want ss

-- whether the node of a guard is
abbrev pub guard_wanted : Want → Option Guard → Bool
guard_wanted want None = true
guard_wanted want (Some g) = want g.node

-- whether all that the cover of a node names is wanted
abbrev pub node_closed : Sure → Want → FlowNode → Bool
node_closed sure want n =
    guard_wanted want n.guard
    && ((not (left_open sure n) || each_wanted want n.left)
    && (not (right_open sure n) || each_wanted want n.right))

-- whether that holds where node j is wanted, and it is wanted where it is an open store
abbrev pub one_closed : Sure → Want → FlowBlock → ℕ → FlowNode → Bool
one_closed sure want b j n =
    (not (want j) || node_closed sure want n)
    && (not (is_open_store sure b (form_of n.op) n) || want j)

-- whether it holds of all nodes
abbrev pub nodes_closed : Sure → Want → FlowBlock → ℕ → List FlowNode → Bool
nodes_closed sure want b j [] = true
nodes_closed sure want b j (n ∷ rest) =
    one_closed sure want b j n && nodes_closed sure want b (suc j) rest

-- whether the sources of a write that may get no token are wanted
abbrev pub write_closed : Sure → Want → FlowWrite → Bool
write_closed sure want w = sure None w.sources || each_wanted want w.sources

-- whether it holds of all writes
abbrev pub writes_closed : Sure → Want → List FlowWrite → Bool
writes_closed sure want [] = true
writes_closed sure want (w ∷ rest) = write_closed sure want w && writes_closed sure want rest

-- whether all that covers name is wanted
abbrev pub is_closed : Sure → Want → FlowBlock → Bool
is_closed sure want b = nodes_closed sure want b 0 b.nodes && writes_closed sure want b.writes

-- what was found, where it is closed, and else all
abbrev pub or_all : Bool → Want → Want
or_all closed want y = cond closed (want y) true

-- of each node, whether its cover is found to be wanted
abbrev pub wants_of : Sure → FlowBlock → List Bool
wants_of sure b =
    spread sure (mark_writes sure (open_stores sure b b.nodes) b.writes) 0 b.nodes

-- what the pass finds
abbrev pub found_wants : FlowBlock → Want
found_wants b = firm_of (wants_of (sure_by b) b)

-- the covers that are made
abbrev pub want_by : FlowBlock → Want
want_by b = or_all (is_closed (sure_by b) (found_wants b) b) (found_wants b)

-- the block that `complete` gives
abbrev pub complete : FlowBlock → FlowBlock
complete b = completed (sure_by b) (want_by b) b
