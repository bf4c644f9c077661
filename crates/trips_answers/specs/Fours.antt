-- What `four` makes of its files: the images that run, or the refusal of one of them.
use Rattle.std.specs.Prelude.{◌≡◌, ◌⊎◌, ℕ, ◌+◌, ◌<◌, ◌≤◌, List, [], ◌∷◌, ◌++◌, Option, Some, IfSome, All, length}
use Rattle.trips_isa.specs.declared.block.Image.{Image}
use Rattle.c_compile.specs.Images.{IsImageOf}
use Rattle.block_image.specs.Spelling.{ImageBytes}
use Rattle.block_check.specs.Faults.{IsGood}
use Rattle.block_check.specs.Images.{IsFirstBad}
use Rattle.block_check.specs.declared.fault.CheckFault.{CheckFault}
use Rattle.target_file.specs.Files.{TargetFile}
use Rattle.trips_outside.specs.Outside.{Holds}
use Rattle.trips_requests.specs.declared.loading.Loaded.{Loaded}
use Rattle.trips_requests.specs.declared.status.Status.{Status}
use Rattle.trips_requests.specs.declared.status.Status.TheVariants as status
use Rattle.trips_requests.specs.Table.{IsRead, AfterReading}
use Rattle.trips_requests.specs.Texts.{IsFixed, read_fault_text, too_large_text}
use Rattle.trips_report.specs.Refusals.{check_text}
use Rattle.trips_eval_answers.specs.Evaluation.{IsRefusedByFront}
use Rattle.trips_tools.specs.ToolAnswers.{IsNoImage, IsBadImage, IsNoText}
use Rattle.trips_four_answers.specs.Report.{program_line}
use Rattle.trips_four_answers.specs.Runs.{IsFourRun}
use Rattle.trips_answers.specs.declared.forms.FileForm.{FileForm}
use Rattle.trips_answers.specs.declared.forms.FileForm.TheVariants as form
use Rattle.trips_answers.specs.declared.forms.Settings.{Settings}
use Rattle.trips_answers.specs.Work.{Work}
use Rattle.trips_answers.specs.Work.{Four}
use Rattle.trips_answers.specs.Request.{Request, form_named}
use Rattle.trips_answers.specs.Asks.{limit_of}

-- files that were read --------------------------------------------------------------------------

-- a file: what it is read as, and its bytes
abbrev pub Program : Type 0
Program = FileForm × List ℕ

-- the image that is made of a file's bytes, by these settings
abbrev pub IsImageBy : FileForm → Settings → List ℕ → Image → Type 0
IsImageBy form.Source settings text image = IsImageOf text settings.placing settings.unroll image
IsImageBy form.Target settings text image = TargetFile image text × All IsGood image.blocks
IsImageBy form.Image settings bytes image = ImageBytes image bytes × All IsGood image.blocks
IsImageBy form.Saved settings bytes image = ⊥

-- those of some files
abbrev pub AreImagesBy : Settings → List Program → List Image → Type 0
AreImagesBy settings [] [] = Unit {0}
AreImagesBy settings (p ∷ ps) (image ∷ images) =
    IsImageBy p.0 settings p.1 image × AreImagesBy settings ps images
AreImagesBy settings ps images = ⊥

-- the text is that of an image, and the report names its first block that is not good
abbrev pub IsBadText : List ℕ → List ℕ → Type 0
IsBadText text report = (image : Image) × (number : ℕ) × (fault : CheckFault)
    × TargetFile image text × IsFirstBad image number fault
    × (report ≡ check_text number fault)

-- no image is made of a file's bytes, and the report says why, as that of `run` does
abbrev pub IsNoProgram : FileForm → List ℕ → List ℕ → Type 0
IsNoProgram form.Source text report = IsRefusedByFront text report
IsNoProgram form.Target text report = IsNoText text report ⊎ IsBadText text report
IsNoProgram form.Image bytes report = IsNoImage bytes report ⊎ IsBadImage bytes report
IsNoProgram form.Saved bytes report = ⊥

-- so is the refusal of the program of a number, behind the line that names it
abbrev pub IsRefusedAt : ℕ → FileForm → List ℕ → List ℕ → Type 0
IsRefusedAt number how bytes text =
    (refusal : List ℕ) × IsNoProgram how bytes refusal × (text ≡ program_line number ++ refusal)

-- the refusal of the lowest of some files of which no image is made; they are counted from a number
abbrev pub IsRefusedIn : Settings → ℕ → List Program → List ℕ → Type 0
IsRefusedIn settings number [] text = ⊥
IsRefusedIn settings number (p ∷ ps) text = IsRefusedAt number p.0 p.1 text
    ⊎ ((image : Image) × IsImageBy p.0 settings p.1 image × IsRefusedIn settings (number + 1) ps text)

-- what is answered to files that were read: the refusal of the lowest that is no image, or the run of all
abbrev pub IsFilesDone : Settings → List Program → List ℕ → Status → List ℕ → Type 0
IsFilesDone settings ps input s report =
    ((text : List ℕ) × IsRefusedIn settings 0 ps text × IsFixed status.Refused text s report)
    ⊎ ((images : List Image) × AreImagesBy settings ps images
    × IsFourRun images input settings.seed settings.most settings.show.cycles s report)

-- further files ---------------------------------------------------------------------------------

-- a further file of a request: what it is read as, and what its name holds, as far as that is told
abbrev pub Further : Type 0
Further = FileForm × Option (List ℕ)

-- the files of `four` behind the first
abbrev pub further_of : (List ℕ → Option (List ℕ)) → Request → List Further
further_of held q = (form_named q.trace, held q.trace) ∷ (form_named q.third, held q.third)
    ∷ (form_named q.fourth, held q.fourth) ∷ []

-- they are read one after another, behind files that were read, and then the work is done
abbrev pub IsFourDone : List Further → Type 0 → Settings → List Program → List ℕ → Status → List ℕ → Type 0
IsFourDone [] rose settings ps input s report = IsFilesDone settings ps input s report
IsFourDone (f ∷ fs) rose settings ps input s report =
    (loaded : Loaded) × IsRead f.1 rose (limit_of f.0) loaded
    × AfterReading loaded (λ bytes. IsFourDone fs rose settings (ps ++ (f.0, bytes) ∷ []) input s report) s report

-- one of them is told, with what it is read as and its bytes, and within its limit
pub record IsToldAs (f : Further) (p : Program) : Type 0 where
  pub form : f.0 ≡ p.0
  pub told : f.1 ≡ Some p.1
  pub few : length p.1 ≤ limit_of p.0

-- so are all
abbrev pub AreTold : List Further → List Program → Type 0
AreTold [] [] = Unit {0}
AreTold (f ∷ fs) (p ∷ ps) = IsToldAs f p × AreTold fs ps
AreTold fs ps = ⊥

-- one of them has too many bytes, as far as they are told
abbrev pub IsLargeAmong : List Further → Type 0
IsLargeAmong [] = ⊥
IsLargeAmong (f ∷ fs) = IfSome f.1 (λ bytes. limit_of f.0 < length bytes) ⊎ IsLargeAmong fs

-- this is the refusal of one of them, as far as they are told; they are counted from a number
abbrev pub IsRefusedAmong : ℕ → List Further → List ℕ → Type 0
IsRefusedAmong number [] text = ⊥
IsRefusedAmong number (f ∷ fs) text =
    ((bytes : List ℕ) × Holds f.1 bytes × IsRefusedAt number f.0 bytes text) ⊎ IsRefusedAmong (number + 1) fs text

-- of `four`, a further file could not be read, has too many bytes, or is refused, as far as that is told
abbrev pub IsFurtherFault : List Further → Type 0 → Work → Status → List ℕ → Type 0
IsFurtherFault fs rose work s report = (work ≡ Four)
    × ((rose × IsFixed status.ReadFault read_fault_text s report)
    ⊎ ((IsLargeAmong fs × IsFixed status.Refused too_large_text s report)
    ⊎ ((text : List ℕ) × IsRefusedAmong 1 fs text × IsFixed status.Refused text s report)))
