-- Blocks whose immediates still hold labels, and what these become once the blocks stand somewhere.
use Rattle.std.specs.Prelude.{ℕ, suc, ◌-◌, ◌*◌, ◌/◌, ◌%◌, nat_le, cond, ℤ, pos, negsuc, List, []}
use Rattle.std.specs.Prelude.{◌∷◌, map, option_map, Option}
use Rattle.trips_isa.specs.declared.op.Op.{Op}
use Rattle.trips_isa.specs.declared.op.Op.TheVariants.{Bro, Callo, Genu, App}
use Rattle.trips_isa.specs.declared.block.Inst.{Inst}
use Rattle.trips_isa.specs.declared.block.Block.{Block}
use Rattle.ir_forms.specs.declared.flow.FlowNode.{FlowNode}
use Rattle.ir_forms.specs.declared.flow.FlowBlock.{FlowBlock}

-- what each immediate becomes, by its operation
abbrev pub Resolves : Type 0
Resolves = Op → ℤ → ℤ

-- a node with its immediate resolved
abbrev pub resolved_node : Resolves → FlowNode → FlowNode
resolved_node r n = record n { imm = r n.op n.imm }

-- a flow block with each immediate resolved
abbrev pub resolved : Resolves → FlowBlock → FlowBlock
resolved r f = record f { nodes = map (resolved_node r) f.nodes }

-- an instruction with its immediate resolved
abbrev pub resolved_inst : Resolves → Inst → Inst
resolved_inst r i = record i { imm = r i.op i.imm }

-- a slot, where it is used
abbrev pub resolved_slot : Resolves → Option Inst → Option Inst
resolved_slot r i = option_map (resolved_inst r) i

-- a block with each immediate resolved
abbrev pub resolved_block : Resolves → Block → Block
resolved_block r b =
    record b { insts = record { items = map (resolved_slot r) b.insts.items } }

-- LABELS IN BRANCHES

-- the way from a chunk to a chunk, as the machine adds it
abbrev pub offset : ℕ → ℕ → ℤ
offset here there =
    cond (nat_le here there) (pos (there - here)) (negsuc (here - there - 1))

-- the label that an immediate holds
abbrev pub label_in : ℤ → ℕ
label_in (pos l) = l
label_in (negsuc l) = 0

-- in block k a branch's label becomes the way to the label's chunk
abbrev pub by_offset : (ℕ → ℕ) → ℕ → Resolves
by_offset chunk k Bro imm = offset (chunk k) (chunk (label_in imm))
by_offset chunk k Callo imm = offset (chunk k) (chunk (label_in imm))
by_offset chunk k op imm = imm

-- LABELS IN CONSTANTS

-- The halves of an address of 32 bits, which `genu` and `app` put together. A constant from 65,536
-- on, which no instruction holds, stands for the label that is over.
abbrev pub half_of : (ℕ → ℕ) → ℤ → ℤ
half_of half (negsuc w) = negsuc w
half_of half (pos w) = cond (nat_le 65536 w) (pos (half (w - 65536))) (pos w)

-- a label in a constant becomes its half of the label's address
abbrev pub by_address : (ℕ → ℕ) → Resolves
by_address address Genu imm = half_of (λ l. address l / 65536) imm
by_address address App imm = half_of (λ l. address l % 65536) imm
by_address address op imm = imm

-- BOTH

-- a label becomes the way to its chunk in a branch, and a half of its chunk's address in a constant
abbrev pub by_both : (ℕ → ℕ) → ℕ → Resolves
by_both chunk k op imm = by_offset chunk k op (by_address (λ l. 128 * chunk l) op imm)

-- the blocks from number k on, each resolved
abbrev pub linked_from : (ℕ → ℕ) → ℕ → List Block → List Block
linked_from chunk k [] = []
linked_from chunk k (t ∷ ts) = resolved_block (by_both chunk k) t ∷ linked_from chunk (suc k) ts
