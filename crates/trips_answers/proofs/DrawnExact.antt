-- What `draw` is answered of bytes that are told, where nothing fails.
use Rattle.std.proofs.Common.{◌≡◌, ℕ, ◌-◌, List, All, inl, inr, subst}
use Rattle.trips_isa.specs.declared.block.Image.{Image}
use Rattle.c_tree.specs.declared.typed.TypedProgram.{TypedProgram}
use Rattle.c_front.specs.Fronts.{IsAccepted}
use Rattle.c_front.proofs.Once.{not_both}
use Rattle.c_compile.specs.Images.{IsImageOf}
use Rattle.block_image.specs.Spelling.{ImageBytes}
use Rattle.block_image.proofs.Prefix.{one_image}
use Rattle.block_check.specs.Faults.{IsGood}
use Rattle.target_file.specs.Files.{TargetFile}
use Rattle.target_file.proofs.Laws as files
use Rattle.trips_draw_answers.specs.Drawn.{IsBlockDrawn}
use Rattle.trips_requests.specs.declared.status.Status.{Status}
use Rattle.trips_answers.specs.Work.{Draw}
use Rattle.trips_answers.specs.declared.forms.FileForm.TheVariants as form
use Rattle.trips_answers.specs.declared.forms.Settings.{Settings}
use Rattle.trips_answers.specs.Worked.{IsDone}
use Rattle.trips_answers.proofs.Exact.{image_not_refused, target_not_refused}

-- with an accepted text
pub drawn_text_exact : (settings : Settings) (text input : List ℕ) (s : Status) (report : List ℕ)
    (program : TypedProgram) → IsDone Draw form.Source settings text input s report → IsAccepted text program
    → (image : Image) × IsImageOf text settings.placing settings.unroll image
    × IsBlockDrawn image.blocks (settings.most - 1) s report
drawn_text_exact settings text input s report program (inl x) is =
    absurd (not_both text program x.1.0 is x.1.1)
drawn_text_exact settings text input s report program (inr run) is = run

-- with an image of good blocks
pub drawn_image_exact : (settings : Settings) (bytes input : List ℕ) (s : Status) (report : List ℕ)
    (image : Image) → IsDone Draw form.Image settings bytes input s report → ImageBytes image bytes
    → All IsGood image.blocks → IsBlockDrawn image.blocks (settings.most - 1) s report
drawn_image_exact settings bytes input s report image (inl x) spelled good =
    absurd (image_not_refused bytes x.0 image spelled good x.1)
drawn_image_exact settings bytes input s report image (inr run) spelled good =
    subst (λ (i : Image). IsBlockDrawn i.blocks (settings.most - 1) s report)
    (one_image run.0 image bytes run.1.0 spelled) run.2

-- with the text of an image of good blocks
pub drawn_target_exact : (settings : Settings) (text input : List ℕ) (s : Status) (report : List ℕ)
    (image : Image) → IsDone Draw form.Target settings text input s report → TargetFile image text
    → All IsGood image.blocks → IsBlockDrawn image.blocks (settings.most - 1) s report
drawn_target_exact settings text input s report image (inl x) spelled good =
    absurd (target_not_refused text x.0 image spelled good x.1)
drawn_target_exact settings text input s report image (inr run) spelled good =
    subst (λ (i : Image). IsBlockDrawn i.blocks (settings.most - 1) s report)
    (files.one_image run.0 image text run.1.0 spelled) run.2
