-- Each guarded node stands in a slot with its sense, and resolving changes no sense.
use Rattle.std.proofs.Common.{◌≡◌, ℕ, suc, ◌+◌, ◌-◌, ◌≤◌, List, [], ◌∷◌, ◌++◌, map, length, replicate}
use Rattle.std.proofs.Common.{Option, Some, None, refl, ap, ap₂, arith}
use Rattle.trips_isa.specs.declared.block.Inst.{Inst}
use Rattle.trips_isa.specs.declared.block.Block.{Block}
use Rattle.ir_forms.specs.declared.flow.FlowNode.{FlowNode}
use Rattle.ir_forms.specs.declared.flow.FlowBlock.{FlowBlock}
use Rattle.fan_out.specs.declared.wiring.Placed.{Placed}
use Rattle.fan_out.specs.declared.wiring.Wire.{Wire}
use Rattle.fan_out.specs.inside.Wires.{wires}
use Rattle.fan_out.specs.inside.Targeted.{fan_of_node, placed_nodes, movs_of_reads, next_of_nodes, movs_of_nodes}
use Rattle.fan_out.specs.inside.Targeted.{slots_of_nodes, slots, slot_of, IsTargeted}
use Rattle.c_compile_layout.specs.inside.Linking.{Resolves, resolved_slot}
use Rattle.c_compile_laws.specs.Counts.{guarded_slot, guarded_slots, guarded_insts}
use Rattle.c_compile_laws.specs.inside.GuardLaws.{TargetsGuarded, ResolvesGuarded}
use Rattle.c_compile_blocks.specs.inside.Guarded.{sensed_nodes}
use Rattle.c_compile_laws.proofs.NodeCounts.{all_sensed}

-- the slots of nodes hold as many guards as the nodes have senses
nodes_same : (ws : List Wire) (next j : ℕ) (ns : List FlowNode)
    → guarded_slots (map slot_of (placed_nodes ws next j ns)) ≡ sensed_nodes ns
nodes_same ws next j [] = refl
nodes_same ws next j (n ∷ ns) =
    let h = nodes_same ws (next + length (fan_of_node ws next j n).movs) (suc j) ns in omega (arith, h)

-- other slots behind them only add
slots_more : (a b : List Placed) (rest : List (Option Inst))
    → guarded_slots (map slot_of a) ≤ guarded_slots (map slot_of (a ++ b) ++ rest)
slots_more [] b rest = omega arith
slots_more (p ∷ a) b rest = let h = slots_more a b rest in omega (arith, h)

-- each node whose guard has a sense stands in a guarded instruction
pub targets_sensed : (f : FlowBlock) (t : Block) → IsTargeted f t → sensed_nodes f.nodes ≤ guarded_insts t
targets_sensed f t is =
    let same = nodes_same (wires f) (next_of_nodes f) 0 f.nodes in
    let more = slots_more (slots_of_nodes f) (movs_of_reads f ++ movs_of_nodes f)
    (replicate (128 - length (slots f)) None) in
    let e = ap guarded_slots is.insts in
    omega (arith, same, more, e)

-- each guarded node becomes a guarded instruction
pub targets : TargetsGuarded
targets f t regular is =
    let a = all_sensed f.nodes regular.guards in
    let b = targets_sensed f t is in
    omega (arith, a, b)

slot_same : (r : Resolves) (o : Option Inst) → guarded_slot (resolved_slot r o) ≡ guarded_slot o
slot_same r None = refl
slot_same r (Some i) = refl

resolved_same : (r : Resolves) (is : List (Option Inst)) → guarded_slots (map (resolved_slot r) is) ≡ guarded_slots is
resolved_same r [] = refl
resolved_same r (i ∷ is) = ap₂ (λ (a b : ℕ). a + b) (slot_same r i) (resolved_same r is)

-- resolving labels changes no guard
pub resolves : ResolvesGuarded
resolves r t = resolved_same r t.insts.items
