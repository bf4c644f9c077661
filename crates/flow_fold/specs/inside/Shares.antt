-- A step of the pass *share*: a node becomes a copy of another that gives the same token wherever it fires.
use Rattle.std.specs.Prelude.{◌≡◌, ◌≢◌, ℕ, pos, Bool, true, false, [], ◌∷◌, Some, slice_get}
use Rattle.trips_isa.specs.declared.op.Op.TheVariants.{Mov}
use Rattle.trips_isa.specs.declared.form.Form.{Form}
use Rattle.trips_isa.specs.declared.form.Form.TheVariants.{General, Immediate, Load, Store, Branch}
use Rattle.trips_isa.specs.declared.form.Form.TheVariants.{Constant}
use Rattle.trips_isa.specs.Forms.{form_of}
use Rattle.ir_forms.specs.declared.flow.FlowSource.TheVariants.{Node}
use Rattle.ir_forms.specs.declared.flow.FlowNode.{FlowNode}
use Rattle.ir_forms.specs.declared.flow.FlowBlock.{FlowBlock}
use Rattle.flow_fold.specs.inside.Copies.{covers}
use Rattle.flow_fold.specs.inside.Folds.{with_node}

-- whether what a node of a form gives hangs on its operands' words alone: it may divide, and so fault
abbrev pub may_be_shared : Form → Bool
may_be_shared General = true
may_be_shared Immediate = true
may_be_shared Constant = true
may_be_shared Load = false
may_be_shared Store = false
may_be_shared Branch = false

-- node a does the same with the same sources as node n, and fires wherever n does; neither loads, stores or leaves
pub record Twins (a n : FlowNode) : Type 0 where
  pub op : a.op ≡ n.op
  pub imm : a.imm ≡ n.imm
  pub guard : covers a.guard n.guard ≡ true
  pub left : a.left ≡ n.left
  pub right : a.right ≡ n.right
  pub form : may_be_shared (form_of n.op) ≡ true

-- a node that copies node i wherever node n fires
abbrev pub copy_of : ℕ → FlowNode → FlowNode
copy_of i n = record n { op = Mov; imm = pos 0; number = 0; left = Node i ∷ []; right = [] }

-- g is f with one node a copy of its twin
pub record Shares (f g : FlowBlock) : Type 0 where
  pub place : ℕ
  pub node : FlowNode
  pub there : slice_get f.nodes place ≡ Some node
  pub other : ℕ
  pub twin : FlowNode
  pub standing : slice_get f.nodes other ≡ Some twin
  pub apart : other ≢ place
  pub twins : Twins twin node
  pub becomes : g ≡ with_node f place (copy_of other node)
