-- The image that a user's file of target text tells, and the first fault of one that tells none, with the line of the
-- file as it stands.
use Rattle.std.specs.Prelude.{◌≡◌, ℕ, List}
use Rattle.trips_isa.specs.declared.block.Image.{Image}
use Rattle.target_asm_spec.specs.Text.{TargetText}
use Rattle.target_asm_spec.specs.FirstAsmFault.{FirstAsmFault}
use Rattle.target_asm_spec.specs.declared.fault.AsmFault.{AsmFault}
use Rattle.target_asm_spec.specs.declared.fault.AsmFault.TheVariants.{Syntax, Range, Label, Memory}
use Rattle.target_file.specs.Bare.{bare, line_in_file}

-- what is left of the file is the text of the image
abbrev pub TargetFile : Image → List ℕ → Type 0
TargetFile image text = TargetText image (bare text)

-- a fault of what is left of the file, with its line in the file
abbrev pub in_file : List ℕ → AsmFault → AsmFault
in_file text (Syntax line) = Syntax (line_in_file text line)
in_file text (Range line) = Range (line_in_file text line)
in_file text (Label line) = Label (line_in_file text line)
in_file text Memory = Memory

-- what is left of the file is no image's, and its first fault stands there in the file
abbrev pub FirstFileFault : List ℕ → AsmFault → Type 0
FirstFileFault text fault =
    (inner : AsmFault) × FirstAsmFault (bare text) inner × (fault ≡ in_file text inner)
