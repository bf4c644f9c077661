-- Beside what is believed of Tools.antt: what `asm`, `dis` and `check` make of the bytes of a file, and why
-- they refuse it (README.md of this crate).
use Rattle.std.specs.Prelude.{◌≡◌, ℕ, List}
use Rattle.trips_isa.specs.declared.block.Image.{Image}
use Rattle.block_image.specs.declared.fault.ImageFault.{ImageFault}
use Rattle.block_image.specs.Spelling.{ImageBytes}
use Rattle.block_image.specs.FirstFault.{FirstFault}
use Rattle.block_check.specs.declared.fault.CheckFault.{CheckFault}
use Rattle.block_check.specs.Images.{IsFirstBad}
use Rattle.target_asm_spec.specs.declared.fault.AsmFault.{AsmFault}
use Rattle.target_file.specs.Files.{FirstFileFault}
use Rattle.trips_report.specs.declared.said.Said.{Said}
use Rattle.trips_report.specs.declared.said.Said.TheVariants as said
use Rattle.trips_tools.specs.declared.made.Made.{Made}
use Rattle.trips_tools.specs.declared.made.Made.TheVariants.{Bytes, Refused}

-- the text is no image's, and goes wrong first so
abbrev pub IsNoText : List ℕ → Said → Type 0
IsNoText text s = (fault : AsmFault) × FirstFileFault text fault × (s ≡ said.Asm fault)

-- the bytes are no image, and go wrong first so
abbrev pub IsNoImage : List ℕ → Said → Type 0
IsNoImage bytes s = (fault : ImageFault) × FirstFault bytes fault × (s ≡ said.Image fault)

-- the bytes are an image, and this is its first block that is not good
abbrev pub IsBadImage : List ℕ → Said → Type 0
IsBadImage bytes s = (image : Image) × (number : ℕ) × (fault : CheckFault) × ImageBytes image bytes
    × IsFirstBad image number fault × (s ≡ said.Check number fault)

-- the bytes are made as one relation says, or the file is refused as another says
abbrev pub Makes : (List ℕ → Type 0) → (Said → Type 0) → Made → Type 0
Makes makes refuses (Bytes bytes) = makes bytes
Makes makes refuses (Refused s) = refuses s
