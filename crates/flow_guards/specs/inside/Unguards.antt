-- Guards only where they are needed: which nodes of a flow block may fire whether or not their guard is met, since
-- nobody sees it, and the block in which these have no guard.
use Rattle.std.specs.Prelude.{◌≡◌, ℕ, suc, Bool, true, false, not, cond, ◌&&◌, ◌||◌}
use Rattle.std.specs.Prelude.{List, [], ◌∷◌, Option, Some, None, get_or}
use Rattle.trips_isa.specs.declared.op.Op.{Op}
use Rattle.trips_isa.specs.declared.form.Form.{Form}
use Rattle.trips_isa.specs.declared.form.Form.TheVariants.{General, Immediate}
use Rattle.trips_isa.specs.Forms.{form_of}
use Rattle.trips_isa.specs.Faults.{divides}
use Rattle.ir_forms.specs.declared.flow.FlowSource.{FlowSource}
use Rattle.ir_forms.specs.declared.flow.FlowSource.TheVariants.{Read, Node}
use Rattle.ir_forms.specs.declared.flow.Guard.{Guard}
use Rattle.ir_forms.specs.declared.flow.FlowNode.{FlowNode}
use Rattle.ir_forms.specs.declared.flow.FlowWrite.{FlowWrite}
use Rattle.ir_forms.specs.declared.flow.FlowBlock.{FlowBlock}
use Rattle.flow_guards.specs.inside.Guards.{Guards, guards_of, implies, most_around}

-- which nodes lose their guard
abbrev pub Loses : Type 0
Loses = ℕ → Bool

-- NODES

-- whether the operations of a form do nothing but compute a word
abbrev pub computes_only : Form → Bool
computes_only General = true
computes_only Immediate = true
computes_only _ = false

-- whether an operation does nothing but compute a word, and cannot fault
abbrev pub is_pure : Op → Bool
is_pure op = computes_only (form_of op) && not (divides op)

-- whether a source keeps the guard that it has
abbrev pub is_kept : Loses → FlowSource → Bool
is_kept loses (Read r) = true
is_kept loses (Node k) = not (loses k)

-- whether each source of a list does
abbrev pub all_kept : Loses → List FlowSource → Bool
all_kept loses [] = true
all_kept loses (x ∷ rest) = is_kept loses x && all_kept loses rest

-- whether the node of a guard does, since others fire by it
abbrev pub guard_kept : Loses → Option Guard → Bool
guard_kept loses None = true
guard_kept loses (Some g) = not (loses g.node)

-- whether a source may be the only one at an operand of a node with this guard: where the source loses its guard,
-- that was met wherever the node's is
abbrev pub may_stand : Guards → Loses → Option Guard → FlowSource → Bool
may_stand guards loses inner (Read r) = true
may_stand guards loses inner (Node k) = not (loses k) || implies guards most_around (guards k) inner

-- whether the sources of an operand of a node with this guard are right: beside another no source loses its guard,
-- so that no operand gets two tokens
abbrev pub are_right : Guards → Loses → Option Guard → List FlowSource → Bool
are_right guards loses inner [] = true
are_right guards loses inner (x ∷ []) = may_stand guards loses inner x
are_right guards loses inner (x ∷ y ∷ rest) = all_kept loses (x ∷ y ∷ rest)

-- whether node j, which is n, is right: it loses its guard only where it is pure, and all that it takes is right
abbrev pub is_right : Guards → Loses → ℕ → FlowNode → Bool
is_right guards loses j n =
    (not (loses j) || is_pure n.op)
    && (guard_kept loses n.guard
    && (are_right guards loses n.guard n.left && are_right guards loses n.guard n.right))

-- whether each of some nodes is, the first of which is node j
abbrev pub nodes_right : Guards → Loses → ℕ → List FlowNode → Bool
nodes_right guards loses j [] = true
nodes_right guards loses j (n ∷ rest) = is_right guards loses j n && nodes_right guards loses (suc j) rest

-- whether no write takes a token of a node that loses its guard
abbrev pub writes_right : Loses → List FlowWrite → Bool
writes_right loses [] = true
writes_right loses (w ∷ rest) = all_kept loses w.sources && writes_right loses rest

-- whether these nodes of a block may lose their guards
abbrev pub may_lose : Loses → FlowBlock → Bool
may_lose loses f = nodes_right (guards_of f.nodes) loses 0 f.nodes && writes_right loses f.writes

-- THE BLOCK

-- a node, without its guard where it loses that
abbrev pub loosened : Bool → FlowNode → FlowNode
loosened loses n = record n { guard = cond loses None n.guard }

-- some nodes, the first of which is node j
abbrev pub all_loosened : Loses → ℕ → List FlowNode → List FlowNode
all_loosened loses j [] = []
all_loosened loses j (n ∷ rest) = loosened (loses j) n ∷ all_loosened loses (suc j) rest

-- the block in which these nodes have no guard
abbrev pub unguarded : Loses → FlowBlock → FlowBlock
unguarded loses f = record f { nodes = all_loosened loses 0 f.nodes }

-- g is f, but that some nodes have lost their guards, which may
pub record Unguards (f g : FlowBlock) : Type 0 where
  pub loses : Loses
  pub may : may_lose loses f ≡ true
  pub same : g ≡ unguarded loses f

-- the nodes that are marked
abbrev pub marked : List Bool → Loses
marked marks j = get_or marks j false
