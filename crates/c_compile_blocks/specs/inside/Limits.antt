-- Blocks whose machine blocks are within the limits of the machine.
use Rattle.std.specs.Prelude.{◌≡◌, ◌⊎◌, ℕ, ◌≤◌, List, [], length, slice_get, Some}
use Rattle.trips_isa.specs.declared.block.Block.{Block as MachineBlock}
use Rattle.trips_isa.specs.Places.{nodes_of}
use Rattle.ir_forms.specs.inside.Limits.{label_count}
use Rattle.block_cases.specs.Cases.{cases}
use Rattle.ir_forms.specs.inside.FlatCode.{Program}
use Rattle.ir_forms.specs.inside.FlatFits.{FitsProgram}
use Rattle.hyper_narrow.specs.inside.NarrowedCode.{Narrowed, whole}
use Rattle.ir_forms.specs.inside.HyperCode.{Block}
use Rattle.ir_forms.specs.inside.HyperFits.{FitsHyper, IsSmall, exits_in}
use Rattle.hyper_build.specs.inside.Laws.{built_program, plan_of, AreAssigned}
use Rattle.hyper_build.specs.inside.SmallIfs.{HoldsSmallIf}
use Rattle.hyper_build.specs.inside.Smallness.{IsSimple, IsGroupBlock, IsLittle}
use Rattle.predication.specs.inside.Tails.{labelled}
use Rattle.predication.specs.inside.Converted.{begun, predicated}
use Rattle.predication.specs.inside.Laws as predication
use Rattle.null_outputs.specs.inside.Wants.{complete}
use Rattle.ir_forms.specs.declared.fault.FlowFault.{FlowFault}
use Rattle.ir_forms.specs.declared.fault.FlowFault.TheVariants.{Memory}
use Rattle.null_outputs.specs.inside.Refusals as null_outputs
use Rattle.fan_out.specs.inside.Refusals as fan_out_refusals
use Rattle.fan_out.specs.inside.Targeted as fan_out

-- the parts of a block's flow block, each within the machine's limit
pub record FitsParts (b : Narrowed) : Type 0 where
  pub nodes : length (predicated b).nodes ≤ 128
  pub reads : length (predicated b).reads ≤ 32
  pub writes : length (predicated b).writes ≤ 32
  -- of loads and stores
  pub numbers : (begun b.block).number ≤ 32
  pub exits : exits_in b.block.tail ≤ 8

-- no pass refuses the block, while it still holds labels, for its size, nor the checker for its cases
pub record FitsMachine (b : Narrowed) : Type 0 where
  pub parts : FitsParts (labelled b)
  -- its load/store numbers and exits
  pub numbers : predication.HasRoom b.block
  -- its reads, writes and instructions
  pub room : fan_out.HasRoom (complete (predicated (labelled b)))
  -- the checker takes blocks of at most 256
  pub cases : (t : MachineBlock) → fan_out.IsTargeted (complete (predicated (labelled b))) t
      → cases (nodes_of t) ≤ 256

-- small blocks without if-items, those of a save group and those of one small if are
abbrev pub LittleBlocksFit : Type 0
LittleBlocksFit = (b : Narrowed) → FitsHyper b.block → IsLittle b.block → FitsMachine b

-- to the first two no null has to be added
abbrev pub PlainBlocksStay : Type 0
PlainBlocksStay = (b : Narrowed) → FitsHyper b.block → IsSimple b.block ⊎ IsGroupBlock b.block
    → complete (predicated (labelled b)) ≡ predicated (labelled b)

-- So is every small block: one of at most three items that do something, one test and two exits, wherever these
-- stand.
abbrev pub SmallBlocksFit : Type 0
SmallBlocksFit = (b : Narrowed) → IsSmall b.block → FitsHyper b.block → FitsMachine b

-- so is a block of one small if alone
abbrev pub SmallIfsFit : Type 0
SmallIfsFit = (b : Narrowed) → FitsHyper b.block → HoldsSmallIf b.block → FitsMachine b

-- so is each block of an assigned program where every answer is to cut
abbrev pub CutProgramsFit : Type 0
CutProgramsFit =
    (P : Program) (lists : List (List ℕ)) (groups : List (List (List ℕ))) → FitsProgram P
    → AreAssigned P lists groups → length (built_program (plan_of [] [] groups) P) ≤ label_count → (k : ℕ)
    (b : Block) → slice_get (built_program (plan_of [] [] groups) P) k ≡ Some b → FitsMachine (whole b)

-- neither completing nor giving targets refuses the block but for want of memory
pub record IsNeverTooBig (b : Narrowed) : Type 0 where
  pub completing : (e : FlowFault) → null_outputs.IsRefusal (predicated (labelled b)) e → e ≡ Memory
  pub targeting : (e : FlowFault) → fan_out_refusals.IsRefusal (complete (predicated (labelled b))) e
      → e ≡ Memory

-- So of each block that is within the limits.
abbrev pub OnlyMemoryRefuses : Type 0
OnlyMemoryRefuses = (b : Narrowed) → FitsMachine b → IsNeverTooBig b
