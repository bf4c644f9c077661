-- What the tools are answered for the bytes of a file: the status and the report.
use Rattle.std.specs.Prelude.{◌≡◌, ℕ, List}
use Rattle.trips_isa.specs.declared.block.Image.{Image}
use Rattle.block_image.specs.declared.fault.ImageFault.{ImageFault}
use Rattle.block_image.specs.Spelling.{ImageBytes}
use Rattle.block_image.specs.FirstFault.{FirstFault}
use Rattle.block_check.specs.declared.fault.CheckFault.{CheckFault}
use Rattle.block_check.specs.Images.{IsFirstBad}
use Rattle.target_asm_spec.specs.declared.fault.AsmFault.{AsmFault}
use Rattle.target_file.specs.Files.{FirstFileFault}
use Rattle.trips_report.specs.Refusals.{image_text, asm_text, check_text}

-- the bytes are no image, and go wrong first where the report says
abbrev pub IsNoImage : List ℕ → List ℕ → Type 0
IsNoImage bytes report =
    (fault : ImageFault) × FirstFault bytes fault × (report ≡ image_text fault)

-- the bytes are an image, and the report names its first block that is not good
abbrev pub IsBadImage : List ℕ → List ℕ → Type 0
IsBadImage bytes report = (image : Image) × (number : ℕ) × (fault : CheckFault)
    × ImageBytes image bytes × IsFirstBad image number fault
    × (report ≡ check_text number fault)

-- the file is no target text, and goes wrong first where the report says
abbrev pub IsNoText : List ℕ → List ℕ → Type 0
IsNoText text report =
    (fault : AsmFault) × FirstFileFault text fault × (report ≡ asm_text fault)
