-- A step of the pass *sweep*: a node that nothing names goes, and the nodes behind it are numbered anew.
use Rattle.std.specs.Prelude.{◌≡◌, ℕ, suc, ◌-◌, nat_lt, nat_eq, Bool, true, false, ◌&&◌, not, cond, List, []}
use Rattle.std.specs.Prelude.{◌∷◌, map, Option, Some, None, slice_get}
use Rattle.trips_isa.specs.declared.op.Op.{Op}
use Rattle.trips_isa.specs.declared.form.Form.{Form}
use Rattle.trips_isa.specs.declared.form.Form.TheVariants.{General, Immediate, Load, Store, Branch}
use Rattle.trips_isa.specs.declared.form.Form.TheVariants.{Constant}
use Rattle.trips_isa.specs.Faults.{divides}
use Rattle.trips_isa.specs.Forms.{form_of}
use Rattle.ir_forms.specs.declared.flow.FlowSource.{FlowSource}
use Rattle.ir_forms.specs.declared.flow.FlowSource.TheVariants.{Read, Node}
use Rattle.ir_forms.specs.declared.flow.Guard.{Guard}
use Rattle.ir_forms.specs.declared.flow.FlowNode.{FlowNode}
use Rattle.ir_forms.specs.declared.flow.FlowWrite.{FlowWrite}
use Rattle.ir_forms.specs.declared.flow.FlowBlock.{FlowBlock}
use Rattle.ir_forms.specs.inside.FlowRegular.{is_named}

-- NUMBERS

-- the number of node j once node k is gone
abbrev pub lower : ℕ → ℕ → ℕ
lower k j = cond (nat_lt k j) (j - 1) j

-- a source by its new number
abbrev pub lower_source : ℕ → FlowSource → FlowSource
lower_source k (Read r) = Read r
lower_source k (Node j) = Node (lower k j)

-- a guard by its new number
abbrev pub lower_guard : ℕ → Option Guard → Option Guard
lower_guard k None = None
lower_guard k (Some g) = Some (record g { node = lower k g.node })

-- a node that names all by their new numbers
abbrev pub lower_node : ℕ → FlowNode → FlowNode
lower_node k n = record n {
  guard = lower_guard k n.guard;
  left = map (lower_source k) n.left;
  right = map (lower_source k) n.right;
}

-- a write that does
abbrev pub lower_write : ℕ → FlowWrite → FlowWrite
lower_write k w = record w { sources = map (lower_source k) w.sources }

-- some nodes, the first of which is node j, without node k
abbrev pub left_nodes : ℕ → ℕ → List FlowNode → List FlowNode
left_nodes k j [] = []
left_nodes k j (n ∷ rest) =
    cond (nat_eq j k) (left_nodes k (suc j) rest) (lower_node k n ∷ left_nodes k (suc j) rest)

-- a block without its node k
abbrev pub without : ℕ → FlowBlock → FlowBlock
without k f = record f {
  nodes = left_nodes k 0 f.nodes;
  writes = map (lower_write k) f.writes;
}

-- WHAT MAY GO

-- whether a node of a form does nothing but give a token
abbrev pub is_idle_form : Form → Op → Bool
is_idle_form General o = not (divides o)
is_idle_form Immediate o = true
is_idle_form Constant o = true
is_idle_form Load o = false
is_idle_form Store o = false
is_idle_form Branch o = false

-- whether an operation does nothing but give a token: it stores nothing, leaves by no exit and cannot fault
abbrev pub is_idle : Op → Bool
is_idle o = is_idle_form (form_of o) o

-- whether a node may go where nothing names it
abbrev pub may_go : Option FlowNode → Bool
may_go None = false
may_go (Some n) = is_idle n.op

-- whether something in a block takes the word of each register of a list
abbrev pub takes_all : FlowBlock → List ℕ → Bool
takes_all f [] = true
takes_all f (r ∷ rest) = is_named f (Read r) && takes_all f rest

-- g is f without a node that nothing names
pub record Sweeps (f g : FlowBlock) : Type 0 where
  pub place : ℕ
  pub idle : may_go (slice_get f.nodes place) ≡ true
  pub unnamed : is_named f (Node place) ≡ false
  pub becomes : g ≡ without place f
  -- each register that is read is still taken
  pub taken : takes_all g f.reads ≡ true
