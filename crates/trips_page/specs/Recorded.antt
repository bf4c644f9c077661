-- What the exports tell of a run, cycle for cycle.
use Rattle.std.specs.Prelude.{ℕ, List, All}
use Rattle.trips_isa.specs.declared.block.Image.{Image}
use Rattle.block_check.specs.Faults.{IsGood}
use Rattle.block_image.specs.Spelling.{ImageBytes}
use Rattle.grid_record.specs.Records.{IsMemory, IsRecord}

-- the bytes are an image of good blocks, and its run is told
abbrev pub TellsRun : List ℕ → List ℕ → ℕ → ℕ → ℕ → ℕ → List ℕ → Type 0
TellsRun bytes input most seed first count told = (image : Image) × ImageBytes image bytes × All IsGood image.blocks
    × IsRecord image.blocks image.bytes input most seed first count told

-- and a part of its memory is
abbrev pub TellsMemory : List ℕ → List ℕ → ℕ → ℕ → ℕ → ℕ → ℕ → List ℕ → Type 0
TellsMemory bytes input most seed cycle from count told =
    (image : Image) × ImageBytes image bytes × All IsGood image.blocks
    × IsMemory image.blocks image.bytes input most seed cycle from count told
