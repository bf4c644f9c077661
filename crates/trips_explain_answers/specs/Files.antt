-- Which images and target texts are refused or accepted, and what is told of them.
use Rattle.std.specs.Prelude.{◌≡◌, ◌⊎◌, ℕ, List, All, length}
use Rattle.trips_isa.specs.declared.block.Image.{Image}
use Rattle.block_image.specs.declared.fault.ImageFault.{ImageFault}
use Rattle.block_image.specs.Spelling.{ImageBytes}
use Rattle.block_image.specs.FirstFault.{FirstFault}
use Rattle.block_check.specs.declared.fault.CheckFault.{CheckFault}
use Rattle.block_check.specs.Faults.{IsGood}
use Rattle.block_check.specs.Images.{IsFirstBad}
use Rattle.target_asm_spec.specs.declared.fault.AsmFault.{AsmFault}
use Rattle.target_file.specs.Files.{FirstFileFault, TargetFile}
use Rattle.trips_explain_answers.specs.FileTold.{image_told, asm_told, check_told, good_told, instructions_in}

-- the first block of the image that is not good is told
abbrev pub IsBadTold : List ℕ → Image → List ℕ → Type 0
IsBadTold file image report = (number : ℕ) × (fault : CheckFault) × IsFirstBad image number fault
    × (report ≡ check_told file number fault)

-- each block of the image is good, and they are counted
abbrev pub IsGoodTold : List ℕ → Image → List ℕ → Type 0
IsGoodTold file image report =
    All IsGood image.blocks × (report ≡ good_told file (length image.blocks) (instructions_in image.blocks))

-- the bytes are no image, or one with a block that is not good, and this is told of them
abbrev pub IsImageRefusalTold : List ℕ → List ℕ → List ℕ → Type 0
IsImageRefusalTold file bytes report =
    ((fault : ImageFault) × FirstFault bytes fault × (report ≡ image_told file fault))
    ⊎ ((image : Image) × ImageBytes image bytes × IsBadTold file image report)

-- the bytes are an image of good blocks, and this is told of it
abbrev pub IsImageAcceptedTold : List ℕ → List ℕ → List ℕ → Type 0
IsImageAcceptedTold file bytes report = (image : Image) × ImageBytes image bytes × IsGoodTold file image report

-- the text is no target text, or one of an image with a block that is not good, and this is told of it
abbrev pub IsTargetRefusalTold : List ℕ → List ℕ → List ℕ → Type 0
IsTargetRefusalTold file text report =
    ((fault : AsmFault) × FirstFileFault text fault × (report ≡ asm_told file fault))
    ⊎ ((image : Image) × TargetFile image text × IsBadTold file image report)

-- the text is that of an image of good blocks, and this is told of it
abbrev pub IsTargetAcceptedTold : List ℕ → List ℕ → List ℕ → Type 0
IsTargetAcceptedTold file text report = (image : Image) × TargetFile image text × IsGoodTold file image report
