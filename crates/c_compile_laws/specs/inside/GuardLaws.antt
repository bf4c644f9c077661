-- That no pass leaves fewer guards than it takes.
use Rattle.std.specs.Prelude.{◌≡◌, ◌⊎◌, ℕ, ◌≤◌, List, length, Some, slice_get}
use Rattle.trips_isa.specs.declared.block.Block.{Block as MachineBlock}
use Rattle.ir_forms.specs.declared.flow.FlowBlock.{FlowBlock}
use Rattle.ir_forms.specs.inside.FlowFits.{guarded_nodes}
use Rattle.ir_forms.specs.inside.FlowRegular.{IsRegular}
use Rattle.ir_forms.specs.inside.HyperFits.{FitsItems, filled_ifs, filled_in}
use Rattle.hyper_narrow.specs.inside.NarrowedCode.{Narrowed, bare}
use Rattle.predication.specs.inside.Converted.{predicated}
use Rattle.null_outputs.specs.inside.Wants.{complete}
use Rattle.fan_out.specs.inside.Targeted.{HasRoom, IsTargeted}
use Rattle.grid_place.specs.Moves.{Permutes}
use Rattle.grid_place.specs.inside.Moves.{IsMoved}
use Rattle.c_compile_layout.specs.inside.Linking.{Resolves, resolved_block, linked_from}
use Rattle.c_compile_blocks.specs.inside.Guarded.{sensed_nodes}
use Rattle.c_compile_laws.specs.Counts.{guarded_insts, guarded_in}

-- each filled if-item gives a guarded node, also where the block still holds labels
abbrev pub ConvertsGuarded : Type 0
ConvertsGuarded =
    (b : Narrowed) → FitsItems b.block.items → filled_ifs b.block.items ≤ guarded_nodes (predicated b).nodes

-- completing takes no node away
abbrev pub CompletesGuarded : Type 0
CompletesGuarded = (f : FlowBlock) → guarded_nodes f.nodes ≤ guarded_nodes (complete f).nodes

-- each guarded node becomes a guarded instruction
abbrev pub TargetsGuarded : Type 0
TargetsGuarded =
    (f : FlowBlock) (t : MachineBlock) → IsRegular f → IsTargeted f t
    → guarded_nodes f.nodes ≤ guarded_insts t

-- each instruction stands in another slot
abbrev pub PlacesGuarded : Type 0
PlacesGuarded =
    (p q : ℕ → ℕ) (t u : MachineBlock) → Permutes p q → length t.insts.items ≡ 128 → IsMoved p t u
    → guarded_insts t ≤ guarded_insts u

-- so a machine block has at least as many guarded instructions as its narrowed block has filled if-items, of its own
-- flow block and of each that has as many guarded nodes
abbrev pub MachinesGuarded : Type 0
MachinesGuarded =
    (p q : ℕ → ℕ) (b : Narrowed) (f : FlowBlock) (t u : MachineBlock) → FitsItems b.block.items
    → (f ≡ complete (predicated b)) ⊎ (filled_ifs b.block.items ≤ sensed_nodes f.nodes)
    → HasRoom f → IsTargeted f t → Permutes p q → IsMoved p t u → filled_ifs b.block.items ≤ guarded_insts u

-- an immediate is no guard
abbrev pub ResolvesGuarded : Type 0
ResolvesGuarded =
    (r : Resolves) (t : MachineBlock) → guarded_insts (resolved_block r t) ≡ guarded_insts t

-- each machine block has at least as many guarded instructions as its narrowed block has filled if-items
pub record AreGuarded (B : List Narrowed) (us : List MachineBlock) : Type 0 where
  pub size : length us ≡ length B
  pub each : (k : ℕ) (b : Narrowed) (u : MachineBlock) → slice_get B k ≡ Some b → slice_get us k ≡ Some u
      → filled_ifs b.block.items ≤ guarded_insts u

-- so there are as many in all, also once labels are resolved
abbrev pub ProgramsGuarded : Type 0
ProgramsGuarded =
    (chunk : ℕ → ℕ) (k : ℕ) (B : List Narrowed) (us : List MachineBlock) → AreGuarded B us
    → filled_in (bare B) ≤ guarded_in (linked_from chunk k us)
