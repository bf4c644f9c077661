-- What `asm`, `dis` and `check` make of the bytes of a file, and why they refuse it (README.md of
-- this crate).
use Rattle.std.specs.Prelude.{◌≡◌, ℕ, List, ◌++◌, All, codes, length, decimal}
use Rattle.trips_isa.specs.declared.block.Image.{Image}
use Rattle.block_image.specs.Spelling.{ImageBytes}
use Rattle.block_check.specs.Faults.{IsGood}
use Rattle.target_asm_spec.specs.Text.{TargetText}
use Rattle.target_file.specs.Files.{TargetFile}

-- the text and the bytes are those of one image
abbrev pub IsOneImage : List ℕ → List ℕ → Type 0
IsOneImage text bytes = (image : Image) × TargetText image text × ImageBytes image bytes

-- the bytes are those of the image that a user's file of target text tells
abbrev pub IsAssembled : List ℕ → List ℕ → Type 0
IsAssembled text bytes = (image : Image) × TargetFile image text × ImageBytes image bytes

-- the report on an image of so many blocks, each of which is good
abbrev pub good_report : ℕ → List ℕ
good_report count = codes "good " ++ (decimal count ++ codes " blocks\n")

-- the bytes are those of an image of good blocks, and this is the report on it
abbrev pub IsGoodImage : List ℕ → List ℕ → Type 0
IsGoodImage bytes report = (image : Image) × ImageBytes image bytes × All IsGood image.blocks
    × (report ≡ good_report (length image.blocks))
