-- What a pass over flow blocks keeps that looks at no label: whatever the labels become, the new block may stand for
-- the old one.
use Rattle.std.specs.Prelude.{◌≡◌, ℕ, ◌<◌, ℤ, pos, negsuc, Bool, true, false, Some, map, slice_get}
use Rattle.trips_isa.specs.declared.op.Op.{Op}
use Rattle.trips_isa.specs.declared.op.Op.TheVariants.{Bro, Callo}
use Rattle.ir_forms.specs.declared.flow.FlowNode.{FlowNode}
use Rattle.ir_forms.specs.declared.flow.FlowBlock.{FlowBlock}
use Rattle.ir_forms.specs.inside.FlowFits.{IsComplete}
use Rattle.ir_forms.specs.inside.FlowRegular.{IsRegular}
use Rattle.ir_forms.specs.inside.HyperRuns.{Layout}
use Rattle.hyper_narrow.specs.inside.NarrowedCode.{Narrowed}
use Rattle.hyper_narrow.specs.inside.NarrowedMeaning.{MeansNarrowed}

-- what each immediate becomes, by its operation
abbrev pub Immediates : Type 0
Immediates = Op → ℤ → ℤ

-- a node with its new immediate
abbrev pub with_immediate : Immediates → FlowNode → FlowNode
with_immediate r n = record n { imm = r n.op n.imm }

-- a flow block with each node's new immediate
abbrev pub with_immediates : Immediates → FlowBlock → FlowBlock
with_immediates r f = record f { nodes = map (with_immediate r) f.nodes }

-- an immediate that is no label stands for itself
abbrev pub IsOwn : ℤ → Type 0
IsOwn (pos w) = w < 65536
IsOwn (negsuc w) = Unit {0}

-- and stays as it is
abbrev pub LeavesOwn : Immediates → Type 0
LeavesOwn r = (o : Op) (i : ℤ) → IsOwn i → r o i ≡ i

-- what a pass may build on, where the immediates become these: each output has its token on every path, and targets
-- can be given
pub record Takes (r : Immediates) (f : FlowBlock) : Type 0 where
  pub complete : IsComplete (with_immediates r f)
  pub regular : IsRegular f

-- whether a branch names its block by a label
abbrev pub names_label : Op → Bool
names_label Bro = true
names_label Callo = true
names_label _ = false

-- some node of a block has a node's operation and immediate, and so its label
pub record Stands (f : FlowBlock) (n : FlowNode) : Type 0 where
  pub place : ℕ
  pub node : FlowNode
  pub there : slice_get f.nodes place ≡ Some node
  pub op : node.op ≡ n.op
  pub imm : node.imm ≡ n.imm

-- g may stand for f
pub record Replaces (f g : FlowBlock) : Type 0 where
  -- so that targets can be given
  pub regular : (r : Immediates) → LeavesOwn r → Takes r f → IsRegular g
  -- on every path each output has its token
  pub complete : (r : Immediates) → LeavesOwn r → Takes r f → IsComplete (with_immediates r g)
  -- it means every narrowed block that f means
  pub means : (r : Immediates) → LeavesOwn r → Takes r f → (at : Layout) (b : Narrowed)
      → MeansNarrowed at b (with_immediates r f) → MeansNarrowed at b (with_immediates r g)
  -- each branch leads where a branch of f leads
  pub labels : (j : ℕ) (n : FlowNode) → slice_get g.nodes j ≡ Some n → names_label n.op ≡ true
      → Stands f n
