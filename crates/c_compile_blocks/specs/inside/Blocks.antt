-- What the passes make of a narrowed program before its labels are resolved: a machine block of each
-- of its blocks.
use Rattle.std.specs.Prelude.{◌≡◌, ◌⊎◌, ℕ, ◌≤◌, Bool, false, List, length, slice_get, Some}
use Rattle.trips_isa.specs.declared.block.Block.{Block}
use Rattle.trips_isa.specs.Places.{nodes_of}
use Rattle.block_cases.specs.Cases.{cases}
use Rattle.ir_forms.specs.declared.flow.FlowBlock.{FlowBlock}
use Rattle.ir_forms.specs.inside.HyperFits.{FitsHyper, IsFollowed, filled_ifs}
use Rattle.hyper_narrow.specs.inside.NarrowedCode.{Narrowed, bare}
use Rattle.predication.specs.inside.Tails.{labelled}
use Rattle.predication.specs.inside.Converted.{predicated}
use Rattle.predication.specs.inside.Laws as convert
use Rattle.null_outputs.specs.inside.Wants.{complete}
use Rattle.flow_ease.specs.inside.Eases.{Eases}
use Rattle.fan_out.specs.inside.Targeted.{HasRoom, IsTargeted}
use Rattle.grid_place.specs.declared.placed.Placing.{Placing}
use Rattle.grid_place.specs.inside.Placings.{IsPlaced}
use Rattle.c_compile_layout.specs.inside.Emitted.{most_blocks}
use Rattle.c_compile_blocks.specs.inside.Guarded.{sensed_nodes}

-- the flow block of a narrowed block: guards in place of branches, and a token for each output on every
-- path; its constants still hold labels
abbrev pub flow_of : Narrowed → FlowBlock
flow_of b = complete (predicated (labelled b))

-- f may be given targets in the place of the flow block of a narrowed block
pub record StandsFor (b : Narrowed) (f : FlowBlock) : Type 0 where
  -- it is as complete and as regular, and means the same
  pub eases : Eases (flow_of b) f
  -- it is the flow block itself, or has a guard for each if-item with a leg that is filled
  pub guards : (f ≡ flow_of b) ⊎ (filled_ifs b.block.items ≤ sensed_nodes f.nodes)

-- u is the machine block that the passes make of a narrowed block, in the slots that a placing says; it
-- is within the limits
pub record IsMachineBlock (p : Placing) (b : Narrowed) (u : Block) : Type 0 where
  -- the loads and stores, and the exits
  pub numbers : convert.HasRoom b.block
  -- the flow block that is given targets
  pub flow : FlowBlock
  pub stands : StandsFor b flow
  -- the instructions, reads and writes
  pub room : HasRoom flow
  -- with targets, in the slots of the flow block's nodes
  pub target : Block
  -- each node at its number, the `mov`s that spread its result behind all
  pub targeted : IsTargeted flow target
  -- the checker takes no more
  pub cases : cases (nodes_of target) ≤ 256
  -- its instructions moved to other slots, with every target that names them
  pub placed : IsPlaced p target u

-- the same, whatever the number of its cases; where nothing is eased, of the flow block itself
pub record IsPassed (is_eased : Bool) (p : Placing) (b : Narrowed) (u : Block) : Type 0 where
  pub numbers : convert.HasRoom b.block
  pub flow : FlowBlock
  pub stands : StandsFor b flow
  -- no pass eased it
  pub plain : is_eased ≡ false → flow ≡ flow_of b
  pub room : HasRoom flow
  pub target : Block
  pub targeted : IsTargeted flow target
  pub placed : IsPlaced p target u

-- us are those of the first n blocks of a narrowed program
pub record AreFirstPassed (is_eased : Bool) (p : Placing) (B : List Narrowed) (n : ℕ) (us : List Block) : Type 0
  where
    pub size : length us ≡ n
    -- each from the narrowed block of the same number
    pub each : (k : ℕ) (b : Narrowed) (u : Block) → slice_get B k ≡ Some b
        → slice_get us k ≡ Some u → IsPassed is_eased p b u

-- us are those of a narrowed program
abbrev pub ArePassed : Bool → Placing → List Narrowed → List Block → Type 0
ArePassed is_eased p B us = AreFirstPassed is_eased p B (length B) us

-- us are the machine blocks of a narrowed program
pub record AreMachineBlocks (p : Placing) (B : List Narrowed) (us : List Block) : Type 0 where
  pub size : length us ≡ length B
  -- each from the narrowed block of the same number
  pub each : (k : ℕ) (b : Narrowed) (u : Block) → slice_get B k ≡ Some b
      → slice_get us k ≡ Some u → IsMachineBlock p b u

-- a narrowed program that the passes take: its blocks fit, lead to its blocks, and are as many as an
-- image holds of whatever size
pub record FitsPasses (B : List Narrowed) : Type 0 where
  -- a run begins with block 0
  pub some : 1 ≤ length B
  -- each block has at most five chunks
  pub few : length B ≤ most_blocks
  -- and a call or a system call comes back to the block behind
  pub followed : IsFollowed (bare B)
  pub fit : (k : ℕ) (b : Narrowed) → slice_get B k ≡ Some b → FitsHyper b.block
