-- What a block keeps whose nodes lose their guards only where nobody sees it.
use Rattle.std.specs.Prelude.{◌≡◌, ℕ, Some, slice_get}
use Rattle.ir_forms.specs.declared.flow.FlowNode.{FlowNode}
use Rattle.ir_forms.specs.declared.flow.FlowBlock.{FlowBlock}
use Rattle.ir_forms.specs.inside.FlowFits.{IsComplete}
use Rattle.ir_forms.specs.inside.FlowRegular.{IsRegular}
use Rattle.ir_forms.specs.inside.HyperRuns.{Layout}
use Rattle.hyper_narrow.specs.inside.NarrowedCode.{Narrowed}
use Rattle.hyper_narrow.specs.inside.NarrowedMeaning.{MeansNarrowed}
use Rattle.predication.specs.inside.Labels.{resolved}
use Rattle.flow_guards.specs.inside.Unguards.{Unguards}

-- on every path each output has its token
abbrev pub KeepsComplete : Type 0
KeepsComplete = (f g : FlowBlock) → Unguards f g → IsComplete f → IsComplete g

-- it means every narrowed block that it meant
abbrev pub KeepsMeaning : Type 0
KeepsMeaning =
    (at : Layout) (b : Narrowed) (f g : FlowBlock) → Unguards f g → MeansNarrowed at b f → MeansNarrowed at b g

-- targets can be given
abbrev pub KeepsRegular : Type 0
KeepsRegular = (f g : FlowBlock) → Unguards f g → IsRegular f → IsRegular g

-- whatever addresses the labels become, the same nodes may lose their guards
abbrev pub KeepsLabels : Type 0
KeepsLabels = (address : ℕ → ℕ) (f g : FlowBlock) → Unguards f g → Unguards (resolved address f) (resolved address g)

-- a node with the operation and the immediate of another stands at a place of a block
pub record StandsAt (f : FlowBlock) (j : ℕ) (n : FlowNode) : Type 0 where
  pub node : FlowNode
  pub there : slice_get f.nodes j ≡ Some node
  pub op : node.op ≡ n.op
  pub imm : node.imm ≡ n.imm

-- each node stood where it stands, so that branches lead where they led
abbrev pub KeepsNodes : Type 0
KeepsNodes =
    (f g : FlowBlock) (j : ℕ) (n : FlowNode) → Unguards f g → slice_get g.nodes j ≡ Some n → StandsAt f j n
