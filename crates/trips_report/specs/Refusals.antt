-- The reports of the refusals of images and target texts: `refused STAGE NUMBER NAME`, and where (README.md
-- of this crate).
use Rattle.std.specs.Prelude.{ℕ, List, [], ◌++◌, codes, decimal}
use Rattle.isa_table.specs.Spots.{spot_text}
use Rattle.trips_requests.specs.Texts.{on_line}
use Rattle.block_image.specs.declared.fault.ImageFault.{ImageFault}
use Rattle.block_image.specs.declared.fault.ImageFault.TheVariants as image
use Rattle.target_asm_spec.specs.declared.fault.AsmFault.{AsmFault}
use Rattle.target_asm_spec.specs.declared.fault.AsmFault.TheVariants as asm
use Rattle.block_check.specs.declared.fault.CheckFault.{CheckFault}
use Rattle.block_check.specs.declared.fault.CheckFault.TheVariants as check

-- a fault's number and name, and the place of its first byte
abbrev pub at_place : List ℕ → ℕ → List ℕ
at_place name at = name ++ (codes " at " ++ (decimal at ++ codes "\n"))

-- of a file that is no image
abbrev pub image_text : ImageFault → List ℕ
image_text image.Magic = codes "refused image 1 Magic\n"
image_text image.Version = codes "refused image 2 Version\n"
image_text (image.Truncated at) = at_place (codes "refused image 3 Truncated") at
image_text (image.Trailing at) = at_place (codes "refused image 4 Trailing") at
image_text (image.BadField at) = at_place (codes "refused image 5 BadField") at
image_text image.Memory = []

-- of a file that is no target text
abbrev pub asm_text : AsmFault → List ℕ
asm_text (asm.Syntax line) = on_line (codes "refused asm 1 Syntax") line
asm_text (asm.Range line) = on_line (codes "refused asm 2 Range") line
asm_text (asm.Label line) = on_line (codes "refused asm 3 Label") line
asm_text asm.Memory = []

-- a fault of a block: its number, its name, and its spot where it has one
abbrev pub fault_text : CheckFault → List ℕ
fault_text (check.BadTarget s) = codes "1 BadTarget " ++ spot_text s
fault_text (check.BadNumber s) = codes "2 BadNumber " ++ spot_text s
fault_text check.Cycle = codes "3 Cycle"
fault_text check.TooManyCases = codes "4 TooManyCases"
fault_text (check.TwoTokens s) = codes "5 TwoTokens " ++ spot_text s
fault_text (check.NoToken s) = codes "6 NoToken " ++ spot_text s
fault_text check.NoExit = codes "7 NoExit"
fault_text check.TwoExits = codes "8 TwoExits"

-- of an image whose block of this number has a fault
abbrev pub check_text : ℕ → CheckFault → List ℕ
check_text number fault =
    codes "refused check "
    ++ (fault_text fault ++ (codes " block " ++ (decimal number ++ codes "\n")))
