-- An image is made of the bytes of a file, or the report of `run` says why none is.
use Rattle.std.proofs.Common.{◌≡◌, ℕ, List, All, Result, Ok, Err, IfOk, inl, inr, sym, subst}
use Rattle.trips_isa.specs.declared.block.Image.{Image}
use Rattle.c_front.specs.declared.refusal.Refusal.{Refusal}
use Rattle.c_front.specs.Refusals.{MayBeRefused}
use Rattle.block_image.specs.Spelling.{ImageBytes}
use Rattle.block_image.specs.FirstFault.{FirstFault}
use Rattle.block_image.specs.declared.fault.ImageFault.{ImageFault}
use Rattle.block_check.specs.Faults.{IsGood}
use Rattle.block_check.specs.Images.{IsFirstBad}
use Rattle.block_check.specs.declared.fault.CheckFault.{CheckFault}
use Rattle.target_file.specs.Files.{FirstFileFault, TargetFile}
use Rattle.target_asm_spec.specs.declared.fault.AsmFault.{AsmFault}
use Rattle.trips_requests.specs.declared.answer.Answer.{Answer}
use Rattle.trips_requests.specs.declared.status.Status.TheVariants as status
use Rattle.trips_requests.specs.Texts.{IsFixed}
use Rattle.trips_report.specs.Refusals.{asm_text, check_text, image_text}
use Rattle.trips_eval_answers.specs.Evaluation.{IsRefusedByFront}
use Rattle.trips_eval_answers.specs.inside.Evaluation.{IsRefusalBy}
use Rattle.trips_answers.specs.declared.forms.FileForm.{FileForm}
use Rattle.trips_answers.specs.declared.forms.FileForm.TheVariants as form
use Rattle.trips_answers.specs.declared.forms.Settings.{Settings}
use Rattle.trips_answers.specs.declared.four_programs.NoImage.{NoImage}
use Rattle.trips_answers.specs.declared.four_programs.NoImage.TheVariants as reason
use Rattle.trips_answers.specs.Fours.{IsNoProgram}
use Rattle.trips_answers.specs.inside.Made.{IsChecked, IsMade, IsRefusedSo}
use Rattle.trips_answers.proofs.Told.{front_told}

-- the refusal that an answer tells says why no image is made
pub refused_so : {E : Type 0} (how : FileForm) (settings : Settings) (bytes : List ℕ) (r : Result Answer E)
    (why : NoImage) → IfOk r (λ a. IsNoProgram how bytes a.report.items) → IsRefusedSo r why
    → IsMade how settings bytes (Err why)
refused_so how settings bytes (Ok a) why bad is =
    subst (λ (w : NoImage). IsMade how settings bytes (Err w)) (sym is) bad
refused_so how settings bytes (Err e) why bad is =
    subst (λ (w : NoImage). IsMade how settings bytes (Err w)) (sym is) tt

-- that of a text that the front end refuses
pub front_so : {E : Type 0} (settings : Settings) (text : List ℕ) (refusal : Refusal) (r : Result Answer E)
    (why : NoImage) → MayBeRefused text refusal
    → IfOk r (λ a. IsRefusalBy text refusal a.status a.report.items) → IsRefusedSo r why
    → IsMade form.Source settings text (Err why)
front_so {E = E} settings text refusal r why may told is =
    refused_so form.Source settings text r why (by r told) is
  where
    by : (x : Result Answer E) → IfOk x (λ a. IsRefusalBy text refusal a.status a.report.items)
        → IfOk x (λ a. IsRefusedByFront text a.report.items)
    by (Err e) t = tt
    by (Ok a) t = subst (IsRefusedByFront text) (sym t.1.1) (front_told text refusal may t.0)

-- that of bytes that are no image
pub bytes_so : {E : Type 0} (settings : Settings) (bytes : List ℕ) (fault : ImageFault) (r : Result Answer E)
    (why : NoImage) → FirstFault bytes fault
    → IfOk r (λ a. IsFixed status.Refused (image_text fault) a.status a.report.items) → IsRefusedSo r why
    → IsMade form.Image settings bytes (Err why)
bytes_so {E = E} settings bytes fault r why first told is =
    refused_so form.Image settings bytes r why (by r told) is
  where
    by : (x : Result Answer E) → IfOk x (λ a. IsFixed status.Refused (image_text fault) a.status a.report.items)
        → IfOk x (λ a. IsNoProgram form.Image bytes a.report.items)
    by (Err e) t = tt
    by (Ok a) t = inl (fault, first, t.1)

-- that of a text of no image
pub target_so : {E : Type 0} (settings : Settings) (text : List ℕ) (fault : AsmFault) (r : Result Answer E)
    (why : NoImage) → FirstFileFault text fault
    → IfOk r (λ a. IsFixed status.Refused (asm_text fault) a.status a.report.items) → IsRefusedSo r why
    → IsMade form.Target settings text (Err why)
target_so {E = E} settings text fault r why first told is =
    refused_so form.Target settings text r why (by r told) is
  where
    by : (x : Result Answer E) → IfOk x (λ a. IsFixed status.Refused (asm_text fault) a.status a.report.items)
        → IfOk x (λ a. IsNoProgram form.Target text a.report.items)
    by (Err e) t = tt
    by (Ok a) t = inl (fault, first, t.1)

-- the refusal of an image by its first block that is not good
pub checked_so : {E : Type 0} (image : Image) (number : ℕ) (fault : CheckFault) (r : Result Answer E)
    (why : NoImage) → IsFirstBad image number fault
    → IfOk r (λ a. IsFixed status.Refused (check_text number fault) a.status a.report.items) → IsRefusedSo r why
    → IsChecked image (Err why)
checked_so image number fault (Ok a) why bad told is =
    subst (λ (w : NoImage). IsChecked image (Err w)) (sym is) (number, fault, bad, told.1)
checked_so image number fault (Err e) why bad told is =
    subst (λ (w : NoImage). IsChecked image (Err w)) (sym is) tt

-- the image that bytes spell is made of them, or refused
pub bytes_made : (settings : Settings) (bytes : List ℕ) (image : Image) (r : Result Image NoImage)
    → ImageBytes image bytes → IsChecked image r → IsMade form.Image settings bytes r
bytes_made settings bytes image (Ok checked) spelled is = (
  subst (λ (i : Image). ImageBytes i bytes) (sym is.0) spelled,
  subst (λ (i : Image). All IsGood i.blocks) (sym is.0) is.1,
)
bytes_made settings bytes image (Err (reason.Refused report)) spelled bad =
    inr (image, bad.0, bad.1, spelled, bad.2, bad.3)
bytes_made settings bytes image (Err reason.Memory) spelled bad = tt

-- so is that of a text
pub target_made : (settings : Settings) (text : List ℕ) (image : Image) (r : Result Image NoImage)
    → TargetFile image text → IsChecked image r → IsMade form.Target settings text r
target_made settings text image (Ok checked) spelled is = (
  subst (λ (i : Image). TargetFile i text) (sym is.0) spelled,
  subst (λ (i : Image). All IsGood i.blocks) (sym is.0) is.1,
)
target_made settings text image (Err (reason.Refused report)) spelled bad =
    inr (image, bad.0, bad.1, spelled, bad.2, bad.3)
target_made settings text image (Err reason.Memory) spelled bad = tt

-- what is made of a file's bytes, as the code has them
pub made_seen : (how read : FileForm) (settings : Settings) (bytes seen : List ℕ) (r : Result Image NoImage)
    → read ≡ how → seen ≡ bytes → IsMade how settings seen r → IsMade read settings bytes r
made_seen how read settings bytes seen r is same made =
    subst (λ (f : FileForm). IsMade f settings bytes r) (sym is)
    (subst (λ (b : List ℕ). IsMade how settings b r) same made)
