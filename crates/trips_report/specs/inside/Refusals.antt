-- Beside what is believed of Refusals.antt: the reports of the refusals of images and target texts.
use Rattle.std.specs.Prelude.{ℕ, ◌≢◌, List}
use Rattle.block_image.specs.declared.fault.ImageFault.TheVariants as image
use Rattle.target_asm_spec.specs.declared.fault.AsmFault.TheVariants as asm
use Rattle.trips_report.specs.declared.said.Said.{Said}
use Rattle.trips_report.specs.declared.said.Said.TheVariants as said
use Rattle.trips_report.specs.Refusals.{image_text, asm_text, check_text}

-- the report of a refusal
abbrev pub refusal_report : Said → List ℕ
refusal_report (said.Image fault) = image_text fault
refusal_report (said.Asm fault) = asm_text fault
refusal_report (said.Check number fault) = check_text number fault

-- it is no want of memory that is said
abbrev pub IsFault : Said → Type 0
IsFault (said.Image fault) = fault ≢ image.Memory
IsFault (said.Asm fault) = fault ≢ asm.Memory
IsFault s = Unit {0}
