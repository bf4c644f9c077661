-- What is told of an image or a target text, from its judgement or its first fault: it takes no input and no steps.
use Rattle.std.proofs.Common.{◌≡◌, ◌⊎◌, inl, inr, ℕ, List, [], refl}
use Rattle.trips_isa.specs.declared.block.Image.{Image}
use Rattle.block_image.specs.declared.fault.ImageFault.{ImageFault}
use Rattle.block_image.specs.Spelling.{ImageBytes}
use Rattle.block_image.specs.FirstFault.{FirstFault}
use Rattle.target_asm_spec.specs.declared.fault.AsmFault.{AsmFault}
use Rattle.target_file.specs.Files.{FirstFileFault, TargetFile}
use Rattle.trips_requests.specs.declared.status.Status.{Status}
use Rattle.trips_requests.specs.declared.status.Status.TheVariants as status
use Rattle.trips_explain_answers.specs.declared.shape.Shape.TheVariants as shape
use Rattle.trips_explain_answers.specs.FileTold.{image_told, asm_told}
use Rattle.trips_explain_answers.specs.inside.Explained.{IsJudged, IsExplainedAs}

-- the bytes of an image that was judged
pub image_done : (file bytes : List ℕ) (image : Image) (s : Status) (report : List ℕ) → ImageBytes image bytes
    → IsJudged file image s report → IsExplainedAs shape.Image file bytes [] 0 s report
image_done file bytes image s report spelled (inl bad) = inl (report, inr (image, spelled, bad.0), (bad.1, refl))
image_done file bytes image s report spelled (inr good) = inr ((image, spelled, good.0), good.1)

-- bytes that are no image
pub image_refused : (file bytes : List ℕ) (fault : ImageFault) (report : List ℕ) → FirstFault bytes fault
    → report ≡ image_told file fault → IsExplainedAs shape.Image file bytes [] 0 status.Refused report
image_refused file bytes fault report first told = inl (report, inl (fault, first, told), (refl, refl))

-- the text of an image that was judged
pub target_done : (file text : List ℕ) (image : Image) (s : Status) (report : List ℕ) → TargetFile image text
    → IsJudged file image s report → IsExplainedAs shape.Target file text [] 0 s report
target_done file text image s report spelled (inl bad) = inl (report, inr (image, spelled, bad.0), (bad.1, refl))
target_done file text image s report spelled (inr good) = inr ((image, spelled, good.0), good.1)

-- a text that is no target text
pub target_refused : (file text : List ℕ) (fault : AsmFault) (report : List ℕ) → FirstFileFault text fault
    → report ≡ asm_told file fault → IsExplainedAs shape.Target file text [] 0 status.Refused report
target_refused file text fault report first told = inl (report, inl (fault, first, told), (refl, refl))
