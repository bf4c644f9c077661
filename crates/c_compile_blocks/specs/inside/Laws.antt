-- Beside what is believed of Laws.antt: what the passes together give.
use Rattle.std.specs.Prelude.{◌≡◌, ℕ, List, Some, slice_get}
use Rattle.trips_isa.specs.declared.block.Block.{Block}
use Rattle.hyper_narrow.specs.inside.NarrowedCode.{Narrowed}
use Rattle.grid_place.specs.declared.placed.Placing.{Placing}
use Rattle.c_compile_layout.specs.inside.Layouts.{linked}
use Rattle.c_compile_layout.specs.inside.Emitted.{AreEmitted}
use Rattle.c_compile_blocks.specs.inside.Blocks.{AreMachineBlocks, FitsPasses}
use Rattle.c_compile_blocks.specs.Laws.{HasPlacedSlots}

-- whatever permutation each block is placed by, the layout takes them
abbrev pub GivesEmitted : Type 0
GivesEmitted =
    (p : Placing) (B : List Narrowed) (us : List Block) → FitsPasses B → AreMachineBlocks p B us
    → AreEmitted B us

-- so are those of each block of the image
abbrev pub UsesSlots : Type 0
UsesSlots =
    (p : Placing) (B : List Narrowed) (us : List Block) → AreMachineBlocks p B us
    → (k : ℕ) (t : Block) → slice_get (linked us) k ≡ Some t → HasPlacedSlots p t
