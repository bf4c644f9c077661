-- What is told of images and target texts, under the name of their file.
use Rattle.std.specs.Prelude.{ℕ, zero, suc, List, [], ◌∷◌, ◌++◌, Option, Some, None, codes, decimal}
use Rattle.std.specs.List.{sum_by}
use Rattle.isa_table.specs.Spots.{spot_text}
use Rattle.trips_isa.specs.declared.block.Block.{Block}
use Rattle.trips_isa.specs.declared.block.Image.{Image}
use Rattle.trips_isa.specs.declared.block.Inst.{Inst}
use Rattle.block_image.specs.declared.fault.ImageFault.{ImageFault}
use Rattle.block_image.specs.declared.fault.ImageFault.TheVariants as image
use Rattle.target_asm_spec.specs.declared.fault.AsmFault.{AsmFault}
use Rattle.target_asm_spec.specs.declared.fault.AsmFault.TheVariants as asm
use Rattle.block_check.specs.declared.fault.CheckFault.{CheckFault}
use Rattle.block_check.specs.declared.fault.CheckFault.TheVariants as check

-- a place of the file, a fault of a stage, and a sentence
abbrev pub at_place : List ℕ → List ℕ → ℕ → List ℕ → List ℕ → List ℕ
at_place file where_word at name said = file ++ (where_word ++ (decimal at
    ++ (codes ": " ++ (name ++ (codes ": " ++ (said ++ codes "\n"))))))

-- of a fault at a byte of an image
abbrev pub at_byte : List ℕ → ℕ → List ℕ → List ℕ → List ℕ
at_byte file at name said = at_place file (codes ": byte ") at name said

-- of a fault on a line of a target text
abbrev pub at_line : List ℕ → ℕ → List ℕ → List ℕ → List ℕ
at_line file at name said = at_place file (codes ":") at name said

-- of bytes that are no image; want of memory is no refusal, here and below
abbrev pub image_told : List ℕ → ImageFault → List ℕ
image_told file image.Magic =
    at_byte file 0 (codes "image Magic") (codes "an image begins with TRIPSIMG; compile and asm write images")
image_told file image.Version =
    at_byte file 8 (codes "image Version") (codes "the version of an image is 1, in four bytes")
image_told file (image.Truncated at) =
    at_byte file at (codes "image Truncated") (codes "the file ends here, and a field or a chunk is not whole")
image_told file (image.Trailing at) =
    at_byte file at (codes "image Trailing") (codes "the image ends here, and more bytes follow")
image_told file (image.BadField at) =
    at_byte file at (codes "image BadField") (codes "the field that begins here holds what it may not")
image_told file image.Memory = []

-- of a text that is no target text
abbrev pub asm_told : List ℕ → AsmFault → List ℕ
asm_told file (asm.Syntax at) =
    at_line file at (codes "asm Syntax") (codes "no line that may stand here is spelled so; dis writes such lines")
asm_told file (asm.Range at) =
    at_line file at (codes "asm Range") (codes "a number of this line does not fit its field")
asm_told file (asm.Label at) =
    at_line file at (codes "asm Label") (codes "this line names a block that the text does not have")
asm_told file asm.Memory = []

-- the name of a fault of a block, and its spot where it has one
abbrev pub check_name : CheckFault → List ℕ
check_name (check.BadTarget s) = codes "BadTarget " ++ spot_text s
check_name (check.BadNumber s) = codes "BadNumber " ++ spot_text s
check_name check.Cycle = codes "Cycle"
check_name check.TooManyCases = codes "TooManyCases"
check_name (check.TwoTokens s) = codes "TwoTokens " ++ spot_text s
check_name (check.NoToken s) = codes "NoToken " ++ spot_text s
check_name check.NoExit = codes "NoExit"
check_name check.TwoExits = codes "TwoExits"

-- what is said of it
abbrev pub check_said : CheckFault → List ℕ
check_said (check.BadTarget s) = codes "it names an operand, a predicate or a write that is not there"
check_said (check.BadNumber s) = codes "its load or store number, or its register, is another's"
check_said check.Cycle = codes "tokens, loads and stores wait for each other in a circle"
check_said check.TooManyCases = codes "its predicates make more than 256 cases"
check_said (check.TwoTokens s) = codes "it gets two tokens in some case"
check_said (check.NoToken s) = codes "it gets no token in some case"
check_said check.NoExit = codes "no branch fires in some case"
check_said check.TwoExits = codes "two branches fire in some case"

-- what stands before the name of a fault of a block
abbrev pub block_head : List ℕ → ℕ → List ℕ
block_head file number = file ++ (codes ": block " ++ (decimal number ++ codes ": check "))

-- of an image whose block of this number has a fault
abbrev pub check_told : List ℕ → ℕ → CheckFault → List ℕ
check_told file number f =
    block_head file number ++ (check_name f ++ (codes ": " ++ (check_said f ++ codes "\n")))

-- the instructions among some slots
abbrev pub filled : List (Option Inst) → ℕ
filled [] = zero
filled (None ∷ slots) = filled slots
filled (Some i ∷ slots) = suc (filled slots)

-- the instructions of a block
abbrev pub block_size : Block → ℕ
block_size b = filled b.insts.items

-- those of some blocks
abbrev pub instructions_in : List Block → ℕ
instructions_in blocks = sum_by block_size blocks

-- of an image of so many good blocks and instructions
abbrev pub good_told : List ℕ → ℕ → ℕ → List ℕ
good_told file blocks instructions =
    file ++ (codes ": accepted, blocks " ++ (decimal blocks ++ (codes ", instructions " ++ (decimal instructions
    ++ codes "\n"))))
