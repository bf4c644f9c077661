-- What the code makes of the files of `four`, one after another, and of that of `draw`.
use Rattle.std.specs.Prelude.{◌≡◌, ◌⊎◌, ℕ, ◌+◌, List, ◌++◌, All, Result, Ok, Err}
use Rattle.trips_isa.specs.declared.block.Image.{Image}
use Rattle.block_check.specs.Faults.{IsGood}
use Rattle.block_check.specs.Images.{IsFirstBad}
use Rattle.block_check.specs.declared.fault.CheckFault.{CheckFault}
use Rattle.trips_report.specs.Refusals.{check_text}
use Rattle.trips_requests.specs.declared.answer.Answer.{Answer}
use Rattle.trips_requests.specs.declared.status.Status.{Status}
use Rattle.trips_requests.specs.declared.status.Status.TheVariants as status
use Rattle.trips_requests.specs.Texts.{IsFixed}
use Rattle.trips_four_answers.specs.Report.{program_line}
use Rattle.trips_four_answers.specs.Runs.{IsFourRun}
use Rattle.trips_answers.specs.declared.forms.FileForm.{FileForm}
use Rattle.trips_answers.specs.declared.forms.Settings.{Settings}
use Rattle.trips_answers.specs.declared.four_programs.NoImage.{NoImage}
use Rattle.trips_answers.specs.declared.four_programs.NoImage.TheVariants as reason
use Rattle.trips_answers.specs.declared.four_programs.Program as code
use Rattle.trips_answers.specs.Fours.{AreImagesBy, IsImageBy, IsNoProgram, IsRefusedIn, Program}

-- a file of the code
abbrev pub seen_as : code.Program → Program
seen_as p = (p.form, p.bytes)

-- the refusal that an answer tells
abbrev pub IsRefusedSo : {E : Type 0} → Result Answer E → NoImage → Type 0
IsRefusedSo (Ok answer) why = why ≡ reason.Refused answer.report
IsRefusedSo (Err e) why = why ≡ reason.Memory

-- an image is made of the bytes of a file, or the report of `run` says why none is
abbrev pub IsMade : FileForm → Settings → List ℕ → Result Image NoImage → Type 0
IsMade how settings bytes (Ok image) = IsImageBy how settings bytes image
IsMade how settings bytes (Err (reason.Refused report)) = IsNoProgram how bytes report.items
IsMade how settings bytes (Err reason.Memory) = Unit {0}

-- an image has good blocks, or the report names its first that is not
abbrev pub IsChecked : Image → Result Image NoImage → Type 0
IsChecked image (Ok checked) = (checked ≡ image) × All IsGood image.blocks
IsChecked image (Err (reason.Refused report)) = (number : ℕ) × (fault : CheckFault)
    × IsFirstBad image number fault × (report.items ≡ check_text number fault)
IsChecked image (Err reason.Memory) = Unit {0}

-- why no image is made of the program of a number is told
abbrev pub IsToldAt : ℕ → NoImage → Status → List ℕ → Type 0
IsToldAt number (reason.Refused refusal) s report =
    IsFixed status.Refused (program_line number ++ refusal.items) s report
IsToldAt number reason.Memory s report = ⊥

-- so is why none is made of the one file of a command
abbrev pub IsPlainlyTold : NoImage → Status → List ℕ → Type 0
IsPlainlyTold (reason.Refused refusal) s report = IsFixed status.Refused refusal.items s report
IsPlainlyTold reason.Memory s report = ⊥

-- What is answered to the rest of some files, which are counted from a number, behind those of which images are made.
abbrev pub IsRestDone : Settings → ℕ → List Image → List Program → List ℕ → Status → List ℕ → Type 0
IsRestDone settings number images ps input s report =
    ((text : List ℕ) × IsRefusedIn settings number ps text × IsFixed status.Refused text s report)
    ⊎ ((more : List Image) × AreImagesBy settings ps more
    × IsFourRun (images ++ more) input settings.seed settings.most settings.show.cycles s report)
