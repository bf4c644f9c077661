-- The machine block of a flow block: node i in slot i, then the movs of the reads, then those of
-- the nodes.
use Rattle.std.specs.Prelude.{◌≡◌, ℕ, suc, ◌+◌, ◌-◌, ◌≤◌, List, [], ◌∷◌, ◌++◌, map, length}
use Rattle.std.specs.Prelude.{replicate, Option, Some, None}
use Rattle.trips_isa.specs.declared.block.Spot.{Spot}
use Rattle.trips_isa.specs.declared.block.Spot.TheVariants as spot
use Rattle.trips_isa.specs.declared.block.Inst.{Inst}
use Rattle.trips_isa.specs.declared.block.ReadSlot.{ReadSlot}
use Rattle.trips_isa.specs.declared.block.Block.{Block}
use Rattle.trips_isa.specs.Forms.{form_of}
use Rattle.ir_forms.specs.declared.flow.FlowSource.TheVariants.{Read, Node}
use Rattle.ir_forms.specs.declared.flow.FlowNode.{FlowNode}
use Rattle.ir_forms.specs.declared.flow.FlowWrite.{FlowWrite}
use Rattle.ir_forms.specs.declared.flow.FlowBlock.{FlowBlock}
use Rattle.ir_forms.specs.inside.FlowRuns.{sense_of}
use Rattle.fan_out.specs.inside.Wires.{Wire, wires}
use Rattle.fan_out.specs.inside.Heights.{heights, in_order, leads}
use Rattle.fan_out.specs.inside.Fans.{Placed, Fan, form_fan, read_fan}

-- how node j reaches its consumers, where its movs stand in slots from `next` on
abbrev pub fan_of_node : List Wire → ℕ → ℕ → FlowNode → Fan
fan_of_node ws next j n = form_fan (leads (heights ws) (in_order (Node j) ws)) (form_of n.op) (Node j) next
    (in_order (Node j) ws)

-- how the read of register r reaches its consumers
abbrev pub fan_of_read : List Wire → ℕ → ℕ → Fan
fan_of_read ws next r = read_fan (Read r) next (in_order (Read r) ws)

-- the instruction of a node, with the targets of its fan
abbrev pub with_targets : FlowNode → Fan → Inst
with_targets n f = record {
  op = n.op;
  sense = sense_of n.guard;
  imm = n.imm;
  number = n.number;
  first = f.first;
  second = f.second;
}

-- node j as what stands in a slot
abbrev pub placed_node : ℕ → FlowNode → Fan → Placed
placed_node j n f = record { owner = Node j; inst = with_targets n f }

-- the nodes from number j on, whose movs stand in slots from `next` on
abbrev pub placed_nodes : List Wire → ℕ → ℕ → List FlowNode → List Placed
placed_nodes ws next j [] = []
placed_nodes ws next j (n ∷ ns) = placed_node j n (fan_of_node ws next j n)
    ∷ placed_nodes ws (next + length (fan_of_node ws next j n).movs) (suc j) ns

-- the movs of the nodes from number j on, in slots from `next` on
abbrev pub node_movs : List Wire → ℕ → ℕ → List FlowNode → List Placed
node_movs ws next j [] = []
node_movs ws next j (n ∷ ns) = (fan_of_node ws next j n).movs
    ++ node_movs ws (next + length (fan_of_node ws next j n).movs) (suc j) ns

-- a read that feeds nothing has no first target; the pass does not take such a block
abbrev pub spot_or : Option Spot → Spot
spot_or None = spot.Read 0
spot_or (Some t) = t

-- the read of register r, with the targets of its fan
abbrev pub read_slot : ℕ → Fan → ReadSlot
read_slot r f = record { register = r; first = spot_or f.first; second = f.second }

-- the reads of some registers, whose movs stand in slots from `next` on
abbrev pub read_slots : List Wire → ℕ → List ℕ → List ReadSlot
read_slots ws next [] = []
read_slots ws next (r ∷ rs) = read_slot r (fan_of_read ws next r)
    ∷ read_slots ws (next + length (fan_of_read ws next r).movs) rs

-- the movs of the reads of some registers, in slots from `next` on
abbrev pub read_movs : List Wire → ℕ → List ℕ → List Placed
read_movs ws next [] = []
read_movs ws next (r ∷ rs) = (fan_of_read ws next r).movs
    ++ read_movs ws (next + length (fan_of_read ws next r).movs) rs

-- the movs of the reads begin behind the nodes, and those of the nodes behind these
abbrev pub movs_of_reads : FlowBlock → List Placed
movs_of_reads f = read_movs (wires f) (length f.nodes) f.reads

-- the slot of the first mov of a node
abbrev pub next_of_nodes : FlowBlock → ℕ
next_of_nodes f = length f.nodes + length (movs_of_reads f)

-- the movs of all nodes
abbrev pub movs_of_nodes : FlowBlock → List Placed
movs_of_nodes f = node_movs (wires f) (next_of_nodes f) 0 f.nodes

-- the slots of the nodes themselves
abbrev pub slots_of_nodes : FlowBlock → List Placed
slots_of_nodes f = placed_nodes (wires f) (next_of_nodes f) 0 f.nodes

-- all slots that are used, in order
abbrev pub slots : FlowBlock → List Placed
slots f = slots_of_nodes f ++ (movs_of_reads f ++ movs_of_nodes f)

-- the exact count of instructions
abbrev pub count_insts : FlowBlock → ℕ
count_insts f = length (slots f)

-- what a used slot holds
abbrev pub slot_of : Placed → Option Inst
slot_of p = Some p.inst

-- the 128 slots: those that are used, and then empty ones
abbrev pub filled : List Placed → List (Option Inst)
filled ps = map slot_of ps ++ replicate (128 - length ps) None

-- the register of a write
abbrev pub register_of : FlowWrite → ℕ
register_of w = w.register

-- b is the machine block of a flow block
pub record IsTargeted (f : FlowBlock) (b : Block) : Type 0 where
  -- with the targets of their fans
  pub reads : b.reads.items ≡ read_slots (wires f) (length f.nodes) f.reads
  pub writes : b.writes.items ≡ map register_of f.writes
  pub mask : b.mask ≡ f.mask
  -- nodes and `mov`s in order, and then empty slots
  pub insts : b.insts.items ≡ filled (slots f)

-- the counts of a block that a machine block holds
pub record HasRoom (f : FlowBlock) : Type 0 where
  -- nodes, and the `mov`s that spread the results
  pub insts : count_insts f ≤ 128
  pub reads : length f.reads ≤ 32
  pub writes : length f.writes ≤ 32
