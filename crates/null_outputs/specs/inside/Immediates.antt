-- Completing and immediates, which may still hold labels.
use Rattle.std.specs.Prelude.{◌≡◌, ℕ, ℤ, pos, map, slice_get, Some, ◌⊎◌}
use Rattle.trips_isa.specs.declared.op.Op.{Op}
use Rattle.trips_isa.specs.declared.op.Op.TheVariants.{Null, Mov, And, Sb}
use Rattle.ir_forms.specs.declared.flow.FlowNode.{FlowNode}
use Rattle.ir_forms.specs.declared.flow.FlowBlock.{FlowBlock}
use Rattle.null_outputs.specs.inside.Laws.{EachMasked}
use Rattle.null_outputs.specs.inside.Wants.{complete}

-- what each immediate becomes, by its operation
abbrev pub Immediates : Type 0
Immediates = Op → ℤ → ℤ

-- a node with its new immediate
abbrev pub with_immediate : Immediates → FlowNode → FlowNode
with_immediate r n = record n { imm = r n.op n.imm }

-- a flow block with each node's new immediate
abbrev pub with_immediates : Immediates → FlowBlock → FlowBlock
with_immediates r b = record b { nodes = map (with_immediate r) b.nodes }

-- the operations that completing adds
abbrev pub IsAddedOp : Op → Type 0
IsAddedOp Null = Unit {0}
IsAddedOp Mov = Unit {0}
IsAddedOp And = Unit {0}
IsAddedOp Sb = Unit {0}
IsAddedOp _ = ⊥

-- a node as completing adds them
pub record IsAdded (n : FlowNode) : Type 0 where
  pub op : IsAddedOp n.op
  -- no label to resolve
  pub imm : n.imm ≡ pos 0

-- the zeros of added nodes stay
abbrev pub KeepsZeros : Immediates → Type 0
KeepsZeros r = (o : Op) → IsAddedOp o → r o (pos 0) ≡ pos 0

-- to give new immediates after completing is to give them before
abbrev pub KeepsImmediates : Type 0
KeepsImmediates = (r : Immediates) (b : FlowBlock) → KeepsZeros r
    → complete (with_immediates r b) ≡ with_immediates r (complete b)

-- each node of the completed block is the block's own at this place, or as completing adds them
abbrev pub AddsNodes : Type 0
AddsNodes = (b : FlowBlock) (j : ℕ) (n : FlowNode) → slice_get (complete b).nodes j ≡ Some n
    → (slice_get b.nodes j ≡ Some n) ⊎ IsAdded n

-- new immediates leave the store numbers in the mask
abbrev pub KeepsMasked : Type 0
KeepsMasked = (r : Immediates) (b : FlowBlock) → EachMasked b b.nodes
    → EachMasked (with_immediates r b) (with_immediates r b).nodes
