-- What the parts of the answers of `save` and `resume` say together.
use Rattle.std.proofs.Common.{◌≡◌, ℕ, List, Result, Ok, Err, IfOk, inl, inr, refl, sym, subst}
use Rattle.trips_isa.specs.declared.block.Image.{Image}
use Rattle.block_image.specs.Spelling.{ImageBytes}
use Rattle.c_front.specs.declared.refusal.Refusal.{Refusal}
use Rattle.c_front.specs.Refusals.{MayBeRefused}
use Rattle.c_compile.specs.Images.{IsImageOf}
use Rattle.trips_requests.specs.declared.status.Status.{Status}
use Rattle.trips_requests.specs.declared.answer.Answer.{Answer}
use Rattle.trips_answers.specs.Work.{Work, Run, Save}
use Rattle.trips_answers.specs.declared.forms.FileForm.{FileForm}
use Rattle.trips_answers.specs.declared.forms.FileForm.TheVariants as form
use Rattle.trips_answers.specs.declared.forms.Settings.{Settings}
use Rattle.trips_grid_answers.specs.Saved.{IsResumed, IsSavedRun}
use Rattle.target_file.specs.Files.{TargetFile}
use Rattle.trips_eval_answers.specs.Refusals.{front_refusal}
use Rattle.trips_eval_answers.specs.inside.Evaluation.{IsRefusalBy}
use Rattle.trips_answers.specs.Worked.{IsDone}
use Rattle.trips_answers.specs.inside.Checked.{IsSaveOfChecked}
use Rattle.trips_answers.proofs.Told.{front_told}

-- the refusal of a text under `save`
pub save_refused_told : {E : Type 0} (text input : List ℕ) (settings : Settings) (refusal : Refusal)
    (r : Result Answer E) → MayBeRefused text refusal
    → IfOk r (λ a. IsRefusalBy text refusal a.status a.report.items)
    → IfOk r (λ a. IsDone Save form.Source settings text input a.status a.report.items)
save_refused_told text input settings refusal (Err e) may told = tt
save_refused_told text input settings refusal (Ok a) may told =
    inl (front_refusal text refusal, front_told text refusal may told.0, told.1)

-- the save of the run of the image that is compiled from a text
pub text_saved_told : {E : Type 0} (text input : List ℕ) (settings : Settings) (image : Image)
    (r : Result Answer E) → IsImageOf text settings.placing settings.unroll image
    → IfOk r (λ a. IsSavedRun image input settings.most a.status a.report.items)
    → IfOk r (λ a. IsDone Save form.Source settings text input a.status a.report.items)
text_saved_told text input settings image (Err e) is told = tt
text_saved_told text input settings image (Ok a) is told = inr (image, is, told)

saved_image : (bytes input : List ℕ) (settings : Settings) (image : Image) (s : Status) (report : List ℕ)
    → ImageBytes image bytes → IsSaveOfChecked image settings input s report
    → IsDone Save form.Image settings bytes input s report
saved_image bytes input settings image s report spelled (inl run) = inr (image, spelled, run.0, run.1)
saved_image bytes input settings image s report spelled (inr bad) =
    inl (_, inr (image, bad.0, bad.1, spelled, bad.2, refl), bad.3)

-- the answer of `save` to the image that the bytes spell
pub image_saved_told : {E : Type 0} (bytes input : List ℕ) (settings : Settings) (image : Image)
    (r : Result Answer E) → ImageBytes image bytes
    → IfOk r (λ a. IsSaveOfChecked image settings input a.status a.report.items)
    → IfOk r (λ a. IsDone Save form.Image settings bytes input a.status a.report.items)
image_saved_told bytes input settings image (Err e) spelled told = tt
image_saved_told bytes input settings image (Ok a) spelled told =
    saved_image bytes input settings image a.status a.report.items spelled told

saved_target : (text input : List ℕ) (settings : Settings) (image : Image) (s : Status) (report : List ℕ)
    → TargetFile image text → IsSaveOfChecked image settings input s report
    → IsDone Save form.Target settings text input s report
saved_target text input settings image s report spelled (inl run) = inr (image, spelled, run.0, run.1)
saved_target text input settings image s report spelled (inr bad) =
    inl (_, inr (image, bad.0, bad.1, spelled, bad.2, refl), bad.3)

-- the answer of `save` to the image of a target text
pub target_saved_told : {E : Type 0} (text input : List ℕ) (settings : Settings) (image : Image)
    (r : Result Answer E) → TargetFile image text
    → IfOk r (λ a. IsSaveOfChecked image settings input a.status a.report.items)
    → IfOk r (λ a. IsDone Save form.Target settings text input a.status a.report.items)
target_saved_told text input settings image (Err e) spelled told = tt
target_saved_told text input settings image (Ok a) spelled told =
    saved_target text input settings image a.status a.report.items spelled told

resumed_row : (bytes input : List ℕ) (settings : Settings) (s : Status) (report : List ℕ)
    → IsResumed bytes settings.conditions settings.most settings.show s report
    → IsDone Run form.Saved settings bytes input s report
resumed_row bytes input settings s report (inl out) = inl out
resumed_row bytes input settings s report (inr run) = inr run

-- the answer of a run that goes on from a saved state
pub resumed_told : {E : Type 0} (how : FileForm) (bytes input : List ℕ) (settings : Settings) (r : Result Answer E)
    → how ≡ form.Saved
    → IfOk r (λ a. IsResumed bytes settings.conditions settings.most settings.show a.status a.report.items)
    → IfOk r (λ a. IsDone Run how settings bytes input a.status a.report.items)
resumed_told how bytes input settings (Err e) is told = tt
resumed_told how bytes input settings (Ok a) is told =
    subst (λ (f : FileForm). IsDone Run f settings bytes input a.status a.report.items) (sym is)
    (resumed_row bytes input settings a.status a.report.items told)

-- what `save` does with a file of this form
pub save_form_told : {E : Type 0} (work : Work) (how read : FileForm) (settings seen : Settings)
    (bytes input : List ℕ) (r : Result Answer E) → work ≡ Save → read ≡ how → seen ≡ settings
    → IfOk r (λ a. IsDone Save read seen bytes input a.status a.report.items)
    → IfOk r (λ a. IsDone work how settings bytes input a.status a.report.items)
save_form_told work how read settings seen bytes input (Err e) is same set told = tt
save_form_told work how read settings seen bytes input (Ok a) is same set told =
    subst (λ (w : Work). IsDone w how settings bytes input a.status a.report.items) (sym is)
    (subst (λ (f : FileForm). IsDone Save f settings bytes input a.status a.report.items) same
    (subst (λ (t : Settings). IsDone Save read t bytes input a.status a.report.items) set told))
