-- What is known of blocks that the passes made, before and after they are checked.
use Rattle.std.specs.Prelude.{ℕ, ◌≤◌, Bool, List, length, All}
use Rattle.trips_isa.specs.declared.block.Block.{Block}
use Rattle.trips_isa.specs.Images.{FitsImage}
use Rattle.trips_isa.specs.Stores.{data_size}
use Rattle.block_cases.specs.Good.{GoodBlock}
use Rattle.ir_forms.specs.inside.HyperWords.{AreBytes}
use Rattle.hyper_narrow.specs.inside.NarrowedCode.{Narrowed}
use Rattle.grid_place.specs.declared.placed.Placing.{Placing}
use Rattle.c_compile_layout.specs.inside.Emitted.{image_of}
use Rattle.c_compile_layout.specs.inside.Layouts.{AreFew}
use Rattle.c_compile_blocks.specs.inside.Blocks.{ArePassed, AreMachineBlocks, FitsPasses}

-- blocks whose image can be checked, and which are machine blocks where the checker takes it
pub record AreChecked (p : Placing) (B : List Narrowed) (us : List Block) (bytes : List ℕ) : Type 0 where
  -- no block has more than 128 instructions
  pub sizes : All (λ b. length b.insts.items ≤ 128) us
  -- together they have no more chunks than an image may
  pub few : AreFew us
  -- their image fits, so that it can be checked
  pub fits : FitsImage (image_of us bytes)
  -- and where each of its blocks is good, they are machine blocks
  pub machine : All GoodBlock (image_of us bytes).blocks → AreMachineBlocks p B us

-- so of the blocks that the passes made of a narrowed program, each in the slots of any permutation
abbrev pub CheckedImagesAreOfMachineBlocks : Type 0
CheckedImagesAreOfMachineBlocks =
    (is_eased : Bool) (p : Placing) (B : List Narrowed) (us : List Block) (bytes : List ℕ) → FitsPasses B
    → ArePassed is_eased p B us → AreBytes bytes → length bytes ≤ data_size → AreChecked p B us bytes
