-- What `resume` and `save` are answered of bytes that are told, where nothing fails.
use Rattle.std.proofs.Common.{◌≡◌, ℕ, List, []}
use Rattle.std.proofs.Common.{All, inl, inr, ◌∙◌, ap, subst}
use Rattle.trips_isa.specs.declared.block.Image.{Image}
use Rattle.trips_isa.specs.Machine.{State}
use Rattle.c_tree.specs.declared.typed.TypedProgram.{TypedProgram}
use Rattle.c_front.specs.Fronts.{IsAccepted}
use Rattle.c_front.proofs.Once.{not_both}
use Rattle.block_image.specs.Spelling.{ImageBytes}
use Rattle.block_image.proofs.Prefix.{one_image}
use Rattle.block_check.specs.Faults.{IsGood}
use Rattle.trips_answers.specs.Work.{Run}
use Rattle.trips_answers.specs.Work.{Save}
use Rattle.target_file.specs.Files.{TargetFile}
use Rattle.target_file.proofs.Laws as files
use Rattle.trips_answers.specs.declared.forms.FileForm.TheVariants as form
use Rattle.trips_answers.specs.declared.forms.Settings.{Settings}
use Rattle.trips_requests.specs.declared.status.Status.{Status}
use Rattle.trips_answers.specs.Worked.{IsSaveOfText, IsDone}
use Rattle.machine_save.proofs.Opened as saves
use Rattle.machine_save.specs.Spelling.{SaveBytes}
use Rattle.trips_grid_answers.specs.Runs.{IsRunFrom}
use Rattle.trips_grid_answers.specs.Saved.{IsSavedRun}
use Rattle.trips_answers.proofs.Exact.{image_not_refused, target_not_refused}

-- with the save file of an image and a state, which is gone on with
pub resumed_exact : (settings : Settings) (bytes input : List ℕ) (s : Status) (report : List ℕ) (image : Image)
    (t : State) → IsDone Run form.Saved settings bytes input s report → SaveBytes image t bytes
    → IsRunFrom image.blocks (record t { trace = [] }) settings.conditions settings.most settings.show s report
resumed_exact settings bytes input s report image t (inl x) is =
    absurd (saves.not_both image t bytes x.1.0 is x.1.1)
resumed_exact settings bytes input s report image t (inr run) is =
    let once : saves.SavedOnce run.0 image run.1 t = saves.saved_once run.0 image run.1 t bytes run.2 is in
    subst (λ (i : Image). IsRunFrom i.blocks (record t { trace = [] }) settings.conditions settings.most settings.show s
    report) once.image
    (subst (λ (x : State). IsRunFrom run.0.blocks x settings.conditions settings.most settings.show s report)
    (fresh run.1 run.3 ∙ once.state) run.4)
  where
    fresh : (x : State) → x.trace ≡ [] → x ≡ record x { trace = [] }
    fresh x e = ap (λ y. record x { trace = y }) e

-- with an accepted text under `save`
pub saved_text_exact : (settings : Settings) (text input : List ℕ) (s : Status) (report : List ℕ)
    (program : TypedProgram) → IsDone Save form.Source settings text input s report
    → IsAccepted text program → IsSaveOfText settings text input s report
saved_text_exact settings text input s report program (inl x) is =
    absurd (not_both text program x.1.0 is x.1.1)
saved_text_exact settings text input s report program (inr run) is = run

-- with an image of good blocks under `save`
pub saved_image_exact : (settings : Settings) (bytes input : List ℕ) (s : Status) (report : List ℕ)
    (image : Image) → IsDone Save form.Image settings bytes input s report → ImageBytes image bytes
    → All IsGood image.blocks → IsSavedRun image input settings.most s report
saved_image_exact settings bytes input s report image (inl x) spelled good =
    absurd (image_not_refused bytes x.0 image spelled good x.1)
saved_image_exact settings bytes input s report image (inr run) spelled good =
    subst (λ (i : Image). IsSavedRun i input settings.most s report)
    (one_image run.0 image bytes run.1 spelled) run.3

-- with the text of an image of good blocks under `save`
pub saved_target_exact : (settings : Settings) (text input : List ℕ) (s : Status) (report : List ℕ)
    (image : Image) → IsDone Save form.Target settings text input s report → TargetFile image text
    → All IsGood image.blocks → IsSavedRun image input settings.most s report
saved_target_exact settings text input s report image (inl x) spelled good =
    absurd (target_not_refused text x.0 image spelled good x.1)
saved_target_exact settings text input s report image (inr run) spelled good =
    subst (λ (i : Image). IsSavedRun i input settings.most s report)
    (files.one_image run.0 image text run.1 spelled) run.3
