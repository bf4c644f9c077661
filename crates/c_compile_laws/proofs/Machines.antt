-- From the filled if-items to the guarded instructions of a machine block.
use Rattle.std.proofs.Common.{◌≡◌, ◌⊎◌, inl, inr, ◌-◌, ◌≤◌, List, length, map, replicate, Option, None, ap, ◌∙◌}
use Rattle.std.proofs.Common.{arith, length-append}
use Rattle.std.proofs.lemmas.List.{length-map, length-replicate}
use Rattle.trips_isa.specs.declared.block.Inst.{Inst}
use Rattle.ir_forms.specs.declared.flow.FlowBlock.{FlowBlock}
use Rattle.ir_forms.specs.inside.HyperFits.{FitsItems, filled_ifs}
use Rattle.hyper_narrow.specs.inside.NarrowedCode.{Narrowed}
use Rattle.predication.specs.inside.Converted.{predicated}
use Rattle.null_outputs.specs.inside.Wants.{complete}
use Rattle.fan_out.specs.declared.wiring.Placed.{Placed}
use Rattle.fan_out.specs.inside.Targeted.{slots, slot_of, filled}
use Rattle.c_compile_blocks.specs.inside.Guarded.{sensed_nodes}
use Rattle.c_compile_laws.specs.inside.GuardLaws.{MachinesGuarded}
use Rattle.c_compile_laws.proofs.NodeCounts.{completes_sensed}
use Rattle.c_compile_laws.proofs.Conversions.{converts_sensed}
use Rattle.c_compile_laws.proofs.Targets.{targets_sensed}
use Rattle.c_compile_laws.proofs.Placings.{places}

-- a machine block that holds all instructions has 128 slots
all_slots : (ps : List Placed) → length ps ≤ 128 → length (filled ps) ≡ 128
all_slots ps few =
    let rest : List (Option Inst) = replicate (128 - length ps) None in
    let a = length-append (map slot_of ps) rest in
    let b = length-map ps slot_of in
    let c : length rest ≡ 128 - length ps = length-replicate (128 - length ps) None in
    omega (arith, few, a, b, c)

-- a flow block has a guarded node for each filled if-item, if it is the block's own or has as many
guarded : (b : Narrowed) (f : FlowBlock) → FitsItems b.block.items
    → (f ≡ complete (predicated b)) ⊎ (filled_ifs b.block.items ≤ sensed_nodes f.nodes)
    → filled_ifs b.block.items ≤ sensed_nodes f.nodes
guarded b f fits (inl e) =
    let a = converts_sensed b fits in
    let c = completes_sensed (predicated b) in
    let d : sensed_nodes f.nodes ≡ sensed_nodes (complete (predicated b)).nodes =
    ap (λ (g : FlowBlock). sensed_nodes g.nodes) e in
    omega (arith, a, c, d)
guarded b f fits (inr h) = h

-- a machine block has at least as many guarded instructions as its narrowed block has filled if-items
pub machines : MachinesGuarded
machines p q b f t u fits guards room is permutes moved =
    let a = guarded b f fits guards in
    let d = targets_sensed f t is in
    let size : length t.insts.items ≡ 128 =
    ap (λ (l : List (Option Inst)). length l) is.insts ∙ all_slots (slots f) room.insts in
    let e = places p q t u permutes size moved in
    omega (arith, a, d, e)
