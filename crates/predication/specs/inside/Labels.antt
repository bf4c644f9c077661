-- Flow blocks that hold labels in their constants, and what these become once addresses are known.
use Rattle.std.specs.Prelude.{ℕ, ◌-◌, ◌/◌, ◌%◌, nat_le, cond, ℤ, pos, negsuc, map}
use Rattle.trips_isa.specs.declared.op.Op.{Op}
use Rattle.trips_isa.specs.declared.op.Op.TheVariants.{Genu, App}
use Rattle.ir_forms.specs.declared.flow.FlowNode.{FlowNode}
use Rattle.ir_forms.specs.declared.flow.FlowBlock.{FlowBlock}

-- a constant from 65,536 on stands for the label that is over, and becomes a half of its address
abbrev pub half_of : (ℕ → ℕ) → ℤ → ℤ
half_of half (negsuc w) = negsuc w
half_of half (pos w) = cond (nat_le 65536 w) (pos (half (w - 65536))) (pos w)

-- `genu` holds the upper half of an address, and `app` the lower one
abbrev pub by_address : (ℕ → ℕ) → Op → ℤ → ℤ
by_address address Genu imm = half_of (λ l. address l / 65536) imm
by_address address App imm = half_of (λ l. address l % 65536) imm
by_address address op imm = imm

-- a node whose constant is a half of an address where it stood for a label
abbrev pub resolved_node : (ℕ → ℕ) → FlowNode → FlowNode
resolved_node address n = record n { imm = by_address address n.op n.imm }

-- a block with the halves of addresses in place of labels
abbrev pub resolved : (ℕ → ℕ) → FlowBlock → FlowBlock
resolved address f = record f { nodes = map (resolved_node address) f.nodes }
