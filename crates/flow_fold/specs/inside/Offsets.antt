-- Sums with a constant that a load or a store takes into its offset. Source: formats L and S of the TRIPS Processor
-- Reference Manual, UT Austin TR-05-19, whose immediate has 9 bits and a sign.
use Rattle.std.specs.Prelude.{ℕ, ℤ, ◌+ℤ◌, ◌-ℤ◌, nat_eq, Bool, true, false, ◌&&◌, cond, List, [], ◌∷◌, Option}
use Rattle.std.specs.Prelude.{Some, None, slice_get}
use Rattle.trips_isa.specs.declared.op.Op.{Op}
use Rattle.trips_isa.specs.declared.op.Op.TheVariants.{Addi, Subi}
use Rattle.trips_isa.specs.declared.form.Form.{Form}
use Rattle.trips_isa.specs.declared.form.Form.TheVariants.{Load, Store}
use Rattle.ir_forms.specs.declared.flow.FlowSource.{FlowSource}
use Rattle.ir_forms.specs.declared.flow.FlowSource.TheVariants.{Read, Node}
use Rattle.ir_forms.specs.declared.flow.FlowNode.{FlowNode}
use Rattle.flow_fold.specs.inside.Immediates.{is_small}
use Rattle.flow_fold.specs.inside.Copies.{covers}

-- whether a form has an address at its left operand, and an offset
abbrev pub has_address : Form → Bool
has_address Load = true
has_address Store = true
has_address _ = false

-- a number, where it and two others are small
abbrev pub if_small : ℤ → ℤ → ℤ → Option ℤ
if_small a b i = cond (is_small a && (is_small b && is_small i)) (Some i) None

-- what the offset b becomes before an operation with immediate a, where that adds or subtracts
abbrev pub moved : Op → ℤ → ℤ → Option ℤ
moved Addi a b = if_small a b (b +ℤ a)
moved Subi a b = if_small a b (b -ℤ a)
moved _ a b = None

-- what the offset b of a node becomes before a node c that fires wherever the node does
abbrev pub offset_before : FlowNode → FlowNode → Option ℤ
offset_before n c = cond (covers c.guard n.guard) (moved c.op c.imm n.imm) None

-- a node with another left operand and another offset
abbrev pub with_offset : FlowNode → List FlowSource → ℤ → FlowNode
with_offset n ss i = record n { imm = i; left = ss }

-- a node with what another takes at its left and an offset, where there is one
abbrev pub with_some : FlowNode → FlowNode → Option ℤ → Option FlowNode
with_some n c None = None
with_some n c (Some i) = Some (with_offset n c.left i)

-- a node that adds to its offset what the node at its address adds, where there is one
abbrev pub summed_at : FlowNode → Option FlowNode → Option FlowNode
summed_at n None = None
summed_at n (Some c) = with_some n c (offset_before n c)

-- node j with the sum that its address is in its offset: some sources are one other node that gives the sum
abbrev pub summed : List FlowNode → ℕ → FlowNode → List FlowSource → Option FlowNode
summed nodes j n [] = None
summed nodes j n (Read r ∷ rest) = None
summed nodes j n (Node k ∷ []) = cond (nat_eq k j) None (summed_at n (slice_get nodes k))
summed nodes j n (Node k ∷ (s ∷ rest)) = None

-- the same of a node that has an address
abbrev pub offset_of : List FlowNode → ℕ → FlowNode → Form → Option FlowNode
offset_of nodes j n form = cond (has_address form) (summed nodes j n n.left) None
