-- What each pass over flow blocks keeps, between completing and giving targets: whatever addresses the labels
-- become, the new block may stand for the old one.
use Rattle.std.specs.Prelude.{◌≡◌, ℕ, Bool, true, false, Some, slice_get}
use Rattle.trips_isa.specs.declared.op.Op.{Op}
use Rattle.trips_isa.specs.declared.op.Op.TheVariants.{Bro, Callo}
use Rattle.ir_forms.specs.declared.flow.FlowNode.{FlowNode}
use Rattle.ir_forms.specs.declared.flow.FlowBlock.{FlowBlock}
use Rattle.ir_forms.specs.inside.FlowFits.{IsComplete}
use Rattle.ir_forms.specs.inside.FlowRegular.{IsRegular}
use Rattle.ir_forms.specs.inside.HyperRuns.{Layout}
use Rattle.hyper_narrow.specs.inside.NarrowedCode.{Narrowed}
use Rattle.hyper_narrow.specs.inside.NarrowedMeaning.{MeansNarrowed}
use Rattle.predication.specs.inside.Labels.{resolved}

-- what a pass may build on, where the labels become these addresses: each output has its token on every path, and
-- targets can be given
pub record Takes (address : ℕ → ℕ) (f : FlowBlock) : Type 0 where
  pub complete : IsComplete (resolved address f)
  pub regular : IsRegular f

-- whether a branch names its block by a label
abbrev pub names_label : Op → Bool
names_label Bro = true
names_label Callo = true
names_label _ = false

-- some node of a block has a node's operation and immediate, and so its label
pub record Stands (f : FlowBlock) (n : FlowNode) : Type 0 where
  pub place : ℕ
  pub node : FlowNode
  pub there : slice_get f.nodes place ≡ Some node
  pub op : node.op ≡ n.op
  pub imm : node.imm ≡ n.imm

-- g may stand for f
pub record Eases (f g : FlowBlock) : Type 0 where
  -- so that targets can be given
  pub regular : (address : ℕ → ℕ) → Takes address f → IsRegular g
  -- on every path each output has its token, whatever addresses stand in its constants
  pub complete : (address : ℕ → ℕ) → Takes address f → IsComplete (resolved address g)
  -- it means every narrowed block that f means
  pub means : (at : Layout) (b : Narrowed) → Takes at.address f → MeansNarrowed at b (resolved at.address f)
      → MeansNarrowed at b (resolved at.address g)
  -- each branch leads where a branch of f leads
  pub labels : (j : ℕ) (n : FlowNode) → slice_get g.nodes j ≡ Some n → names_label n.op ≡ true
      → Stands f n
