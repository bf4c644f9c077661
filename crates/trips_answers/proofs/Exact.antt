-- What a request gets whose file and input are told, where nothing fails.
use Rattle.std.proofs.Common.{◌≡◌, ℕ, ◌<◌, List, [], ◌∷◌, ◌++◌, Option, Some}
use Rattle.std.proofs.Common.{All, length, inl, inr, refl, sym, ◌∙◌, ap, subst}
use Rattle.std.proofs.Common.{get_or, ◌⊎◌}
use Rattle.std.proofs.lemmas.Option.{slice_get_within, get_or_from_slice_get}
use Rattle.trips_outside.specs.Outside.{Holds}
use Rattle.trips_isa.specs.declared.block.Image.{Image}
use Rattle.c_tree.specs.declared.typed.TypedProgram.{TypedProgram}
use Rattle.c_front.specs.Fronts.{IsAccepted}
use Rattle.c_front.proofs.Once.{not_both, accepted_once, refused_once}
use Rattle.block_image.specs.Spelling.{ImageBytes}
use Rattle.block_image.proofs.Decoded as decoded
use Rattle.block_image.proofs.Prefix.{one_image}
use Rattle.block_check.specs.declared.fault.CheckFault.{CheckFault}
use Rattle.block_check.specs.Faults.{IsGood}
use Rattle.block_check.specs.Images.{IsFirstBad}
use Rattle.trips_answers.specs.Work.{Work}
use Rattle.trips_answers.specs.Work.{Run, Evaluate, Compile, Listing, Trap}
use Rattle.trips_answers.specs.Work.{Assemble, Disassemble, Check, Draw, Explain, Record, Verify, Save, Four}
use Rattle.block_image.specs.Spelling.{spelling}
use Rattle.target_file.specs.Files.{TargetFile}
use Rattle.target_asm_spec.specs.Text as asm
use Rattle.trips_tools.specs.Tools.{IsAssembled, IsGoodImage, IsOneImage, good_report}
use Rattle.target_file.proofs.Laws as files
use Rattle.trips_answers.specs.declared.forms.FileForm.{FileForm}
use Rattle.trips_answers.specs.declared.forms.FileForm.TheVariants as form
use Rattle.trips_answers.specs.declared.forms.Settings.{Settings}
use Rattle.trips_requests.specs.declared.status.Status.{Status}
use Rattle.trips_requests.specs.declared.status.Status.TheVariants as status
use Rattle.trips_report.specs.Refusals.{image_text, asm_text, check_text}
use Rattle.trips_requests.specs.Texts.{read_fault_text, IsFixed}
use Rattle.trips_eval_answers.specs.Refusals.{front_refusal}
use Rattle.trips_answers.specs.Refused.{IsBadText, IsRefusedAs}
use Rattle.trips_tools.specs.ToolAnswers.{IsNoImage, IsBadImage, IsNoText}
use Rattle.trips_trace_answers.specs.TraceAnswers.{IsVerdict, TellsTrace}
use Rattle.trips_eval_answers.specs.Evaluation.{IsRefusedByFront, IsEvaluation}
use Rattle.trips_explain_answers.specs.Explained.{IsAcceptedTold}
use Rattle.trips_explain_answers.proofs.Once.{accepted_told_once, not_both_told, refusal_told_once}
use Rattle.trips_answers.specs.Worked.{IsRunBy, IsRunOfText, IsCompiled, IsListed, IsWorked, IsDone}
use Rattle.trips_listing_answers.specs.Traps.{IsTrapTold}
use Rattle.trips_answers.specs.Worked.{IsDoneBehind}
use Rattle.trips_answers.specs.Fours.{AreImagesBy, Further, IsImageBy, IsNoProgram, IsRefusedAt, Program}
use Rattle.trips_four_answers.specs.Report.{program_line}
use Rattle.trips_answers.specs.Done.{CanBeDone, CanBeImage}
use Rattle.trips_explain_answers.proofs.OneFault.{first_bad_once}
use Rattle.machine_save.proofs.Opened as saves
use Rattle.trips_grid_answers.specs.Saved.{IsNoSave, save_text}
use Rattle.trips_answers.proofs.ReadFiles.{told_text}

-- images ----------------------------------------------------------------------------------------

good_is_not_bad : (image : Image) (number : ℕ) (fault : CheckFault) → All IsGood image.blocks
    → IsFirstBad image number fault → ⊥
good_is_not_bad image number fault good bad =
    let within : number < length image.blocks = slice_get_within image.blocks number bad.block
    bad.is_block in
    let is : get_or image.blocks number bad.block ≡ bad.block =
    get_or_from_slice_get image.blocks number bad.block bad.block bad.is_block in
    subst IsGood is (good number bad.block within) fault bad.has.holds

pub image_not_refused : (bytes out : List ℕ) (image : Image) → ImageBytes image bytes
    → All IsGood image.blocks → IsRefusedAs Run form.Image bytes out → ⊥
image_not_refused bytes out image spelled good (inl bad) =
    decoded.not_both image bytes bad.0 spelled bad.1
image_not_refused bytes out image spelled good (inr bad) =
    let same : bad.0 ≡ image = one_image bad.0 image bytes bad.3 spelled in
    good_is_not_bad image bad.1 bad.2 good
    (subst (λ (i : Image). IsFirstBad i bad.1 bad.2) same bad.4)

pub target_not_refused : (text out : List ℕ) (image : Image) → TargetFile image text
    → All IsGood image.blocks → IsRefusedAs Run form.Target text out → ⊥
target_not_refused text out image spelled good (inl bad) =
    files.not_both image text bad.0 spelled bad.1
target_not_refused text out image spelled good (inr bad) =
    let same : bad.0 ≡ image = files.one_image bad.0 image text bad.3 spelled in
    good_is_not_bad image bad.1 bad.2 good
    (subst (λ (i : Image). IsFirstBad i bad.1 bad.2) same bad.4)

-- a file of which an image is made is no refused program
pub no_program_image : (how : FileForm) (settings : Settings) (bytes out : List ℕ) (image : Image)
    → IsNoProgram how bytes out → IsImageBy how settings bytes image → ⊥
no_program_image form.Source settings bytes out image bad is =
    not_both bytes is.lowered.program bad.0 is.lowered.accepted bad.1
no_program_image form.Target settings bytes out image bad is = target_not_refused bytes out image is.0 is.1 bad
no_program_image form.Image settings bytes out image bad is = image_not_refused bytes out image is.0 is.1 bad
no_program_image form.Saved settings bytes out image bad is = absurd bad

-- the first of some files of which images are made
pub first_image : (settings : Settings) (how : FileForm) (bytes : List ℕ) (others : List Program)
    (images : List Image)
    → AreImagesBy settings ((how, bytes) ∷ others) images → (image : Image) × IsImageBy how settings bytes image
first_image settings how bytes others (image ∷ images) are = (image, are.0)
first_image settings how bytes others [] are = absurd are

-- nor can it be one
pub no_program_can : (how : FileForm) (bytes out : List ℕ) → IsNoProgram how bytes out → CanBeImage how bytes → ⊥
no_program_can form.Source bytes out bad can = not_both bytes can.0 bad.0 can.1 bad.1
no_program_can form.Target bytes out bad can = target_not_refused bytes out can.0 can.1.0 can.1.1 bad
no_program_can form.Image bytes out bad can = image_not_refused bytes out can.0 can.1.0 can.1.1 bad
no_program_can form.Saved bytes out bad can = absurd can

-- the work --------------------------------------------------------------------------------------

-- bytes that are refused are not worked with
pub not_worked : (work : Work) (how : FileForm) (settings : Settings) (bytes input : List ℕ)
    (s : Status) (report out : List ℕ) → IsRefusedAs work how bytes out
    → IsWorked work how settings bytes input s report → ⊥
not_worked Evaluate how settings bytes input s report out bad run =
    not_both bytes run.0 bad.0 run.1 bad.1
not_worked Run form.Source settings bytes input s report out bad run =
    not_both bytes run.1.lowered.program bad.0 run.1.lowered.accepted bad.1
not_worked Run form.Target settings bytes input s report out bad run =
    target_not_refused bytes out run.0 run.1 run.2 bad
not_worked Run form.Image settings bytes input s report out bad run =
    image_not_refused bytes out run.0 run.1 run.2 bad
not_worked Run form.Saved settings bytes input s report out bad run =
    saves.not_both run.0 run.1 bytes bad.0 run.2 bad.1
not_worked Save form.Source settings bytes input s report out bad run =
    not_both bytes run.1.lowered.program bad.0 run.1.lowered.accepted bad.1
not_worked Save form.Target settings bytes input s report out bad run =
    target_not_refused bytes out run.0 run.1 run.2 bad
not_worked Save form.Image settings bytes input s report out bad run =
    image_not_refused bytes out run.0 run.1 run.2 bad
not_worked Save form.Saved settings bytes input s report out bad run = absurd run
not_worked Four how settings bytes input s report out bad run =
    let first = first_image settings how bytes run.0 run.1 run.2 in
    no_program_image how settings bytes bad.0 first.0 bad.1 first.1
not_worked Draw how settings bytes input s report out bad run =
    no_program_image how settings bytes out run.0 bad run.1
not_worked Compile how settings bytes input s report out bad run =
    not_both bytes run.1.lowered.program bad.0 run.1.lowered.accepted bad.1
not_worked Listing how settings bytes input s report out bad run =
    let lowered = run.0.listed.image.lowered in not_both bytes lowered.program bad.0 lowered.accepted bad.1
not_worked Assemble how settings bytes input s report out bad run =
    files.not_both run.0.0 bytes bad.0 run.0.1 bad.1
not_worked Disassemble how settings bytes input s report out bad run =
    decoded.not_both run.0.0 bytes bad.0 run.0.2 bad.1
not_worked Check how settings bytes input s report out bad run =
    image_not_refused bytes out run.0.0 run.0.1 run.0.2 bad
not_worked (Explain file) how settings bytes input s report out bad run =
    not_both_told file bytes input settings.most report out run.0 bad
not_worked (Trap file) how settings bytes input s report out bad run =
    not_both_told file bytes input settings.most run.0.0 out run.0.2 bad
not_worked Verify how settings bytes input s report out bad run =
    image_not_refused bytes out run.1.0 run.1.1.0 run.1.1.1 bad
not_worked Record how settings bytes input s report out bad run =
    image_not_refused bytes out run.0 run.1.0 run.1.1 bad

-- nor can the work be done with them
pub refused_cannot : (work : Work) (how : FileForm) (bytes out : List ℕ) → IsRefusedAs work how bytes out
    → CanBeDone work how bytes → ⊥
refused_cannot Evaluate how bytes out bad can = not_both bytes can.0 bad.0 can.1 bad.1
refused_cannot Run form.Source bytes out bad can = not_both bytes can.0 bad.0 can.1 bad.1
refused_cannot Run form.Target bytes out bad can = target_not_refused bytes out can.0 can.1.0 can.1.1 bad
refused_cannot Run form.Image bytes out bad can = image_not_refused bytes out can.0 can.1.0 can.1.1 bad
refused_cannot Run form.Saved bytes out bad can = saves.not_both can.0 can.1 bytes bad.0 can.2 bad.1
refused_cannot Save how bytes out bad can = no_program_can how bytes out bad can
refused_cannot Four how bytes out bad can = no_program_can how bytes bad.0 bad.1 can
refused_cannot Draw how bytes out bad can = no_program_can how bytes out bad can
refused_cannot Compile how bytes out bad can = not_both bytes can.0 bad.0 can.1 bad.1
refused_cannot Listing how bytes out bad can = not_both bytes can.0 bad.0 can.1 bad.1
refused_cannot Assemble how bytes out bad can = files.not_both can.1.0 bytes bad.0 can.1.1 bad.1
refused_cannot Disassemble how bytes out bad can = decoded.not_both can.1.0 bytes bad.0 can.1.2 bad.1
refused_cannot Check how bytes out bad can = image_not_refused bytes out can.1.0 can.1.1 can.1.2 bad
refused_cannot (Explain file) how bytes out bad can =
    not_both_told file bytes can.1 can.0 can.2 out can.3 bad
refused_cannot (Trap file) how bytes out bad can =
    not_both_told file bytes can.1 can.0 can.2 out can.3 bad
refused_cannot Verify how bytes out bad can = image_not_refused bytes out can.0 can.1.0 can.1.1 bad
refused_cannot Record how bytes out bad can = image_not_refused bytes out can.0 can.1.0 can.1.1 bad

front_once : (text a b : List ℕ) → IsRefusedByFront text a → IsRefusedByFront text b → a ≡ b
front_once text a b x y =
    x.2 ∙ ap (front_refusal text) (refused_once text x.0 y.0 x.1 y.1) ∙ sym y.2

bad_once : (bytes a b : List ℕ) → IsBadImage bytes a → IsBadImage bytes b → a ≡ b
bad_once bytes a b x y =
    let same : y.0 ≡ x.0 = one_image y.0 x.0 bytes y.3 x.3 in
    let again = subst (λ (i : Image). IsFirstBad i y.1 y.2) same y.4 in
    let one = first_bad_once x.0 x.1 y.1 x.2 y.2 x.3.fits x.4 again in
    x.5 ∙ ap (λ (n : ℕ). check_text n x.2) one.0 ∙ ap (check_text y.1) one.1 ∙ sym y.5

-- bytes that are no image are refused with one report, and so are those of an image
no_image_once : (bytes a b : List ℕ) → IsNoImage bytes a → IsNoImage bytes b → a ≡ b
no_image_once bytes a b x y =
    x.2 ∙ ap image_text (decoded.one_fault bytes x.0 y.0 x.1 y.1) ∙ sym y.2

image_once : (bytes a b : List ℕ) → IsNoImage bytes a ⊎ IsBadImage bytes a
    → IsNoImage bytes b ⊎ IsBadImage bytes b → a ≡ b
image_once bytes a b (inl x) (inl y) = no_image_once bytes a b x y
image_once bytes a b (inl x) (inr y) = absurd (decoded.not_both y.0 bytes x.0 y.3 x.1)
image_once bytes a b (inr x) (inl y) = absurd (decoded.not_both x.0 bytes y.0 x.3 y.1)
image_once bytes a b (inr x) (inr y) = bad_once bytes a b x y

-- the same of target texts
no_text_once : (text a b : List ℕ) → IsNoText text a → IsNoText text b → a ≡ b
no_text_once text a b x y = x.2 ∙ ap asm_text (files.one_fault text x.0 y.0 x.1 y.1) ∙ sym y.2

bad_text_once : (text a b : List ℕ) → IsBadText text a → IsBadText text b → a ≡ b
bad_text_once text a b x y =
    let same : y.0 ≡ x.0 = files.one_image y.0 x.0 text y.3 x.3 in
    let again = subst (λ (i : Image). IsFirstBad i y.1 y.2) same y.4 in
    let one = first_bad_once x.0 x.1 y.1 x.2 y.2 x.3.fits x.4 again in
    x.5 ∙ ap (λ (n : ℕ). check_text n x.2) one.0 ∙ ap (check_text y.1) one.1 ∙ sym y.5

target_once : (text a b : List ℕ) → IsNoText text a ⊎ IsBadText text a
    → IsNoText text b ⊎ IsBadText text b → a ≡ b
target_once text a b (inl x) (inl y) = no_text_once text a b x y
target_once text a b (inl x) (inr y) = absurd (files.not_both y.0 text x.0 y.3 x.1)
target_once text a b (inr x) (inl y) = absurd (files.not_both x.0 text y.0 x.3 y.1)
target_once text a b (inr x) (inr y) = bad_text_once text a b x y

-- bytes that save nothing are refused with one report
no_save_once : (bytes a b : List ℕ) → IsNoSave bytes a → IsNoSave bytes b → a ≡ b
no_save_once bytes a b x y = x.2 ∙ ap save_text (saves.one_fault bytes x.0 y.0 x.1 y.1) ∙ sym y.2

-- bytes of which no image is made are refused with one report
no_program_once : (how : FileForm) (bytes a b : List ℕ) → IsNoProgram how bytes a → IsNoProgram how bytes b → a ≡ b
no_program_once form.Source bytes a b x y = front_once bytes a b x y
no_program_once form.Target bytes a b x y = target_once bytes a b x y
no_program_once form.Image bytes a b x y = image_once bytes a b x y
no_program_once form.Saved bytes a b x y = absurd x

pub program_once : (number : ℕ) (how : FileForm) (bytes a b : List ℕ) → IsRefusedAt number how bytes a
    → IsRefusedAt number how bytes b → a ≡ b
program_once number how bytes a b x y = x.2
    ∙ ap (λ (t : List ℕ). program_line number ++ t) (no_program_once how bytes x.0 y.0 x.1 y.1) ∙ sym y.2

-- bytes are refused with one report
pub refusal_once : (work : Work) (how : FileForm) (bytes a b : List ℕ)
    → IsRefusedAs work how bytes a → IsRefusedAs work how bytes b → a ≡ b
refusal_once Evaluate how bytes a b x y = front_once bytes a b x y
refusal_once Run form.Source bytes a b x y = front_once bytes a b x y
refusal_once Run form.Target bytes a b x y = target_once bytes a b x y
refusal_once Run form.Image bytes a b x y = image_once bytes a b x y
refusal_once Run form.Saved bytes a b x y = no_save_once bytes a b x y
refusal_once Save how bytes a b x y = no_program_once how bytes a b x y
refusal_once Four how bytes a b x y = program_once 0 how bytes a b x y
refusal_once Draw how bytes a b x y = no_program_once how bytes a b x y
refusal_once Compile how bytes a b x y = front_once bytes a b x y
refusal_once Listing how bytes a b x y = front_once bytes a b x y
refusal_once Assemble how bytes a b x y = no_text_once bytes a b x y
refusal_once Disassemble how bytes a b x y = no_image_once bytes a b x y
refusal_once Check how bytes a b x y = image_once bytes a b x y
refusal_once (Explain file) how bytes a b x y = refusal_told_once file bytes a b x y
refusal_once (Trap file) how bytes a b x y = refusal_told_once file bytes a b x y
refusal_once Verify how bytes a b x y = image_once bytes a b x y
refusal_once Record how bytes a b x y = image_once bytes a b x y

-- what is done with bytes that are refused
done_refused : (work : Work) (how : FileForm) (settings : Settings) (bytes input : List ℕ)
    (s : Status) (report out : List ℕ) → IsDone work how settings bytes input s report
    → IsRefusedAs work how bytes out → (s ≡ status.Refused) × (report ≡ out)
done_refused work how settings bytes input s report out (inl x) bad =
    (x.2.0, x.2.1 ∙ refusal_once work how bytes x.0 out x.1 bad)
done_refused work how settings bytes input s report out (inr run) bad =
    absurd (not_worked work how settings bytes input s report out bad run)

-- and what is answered, behind the input: that of a first file of `four` hangs on the further ones
pub refused_exact : (told : Option (List ℕ)) (fs : List Further) (rose : Type 0) (work : Work) (how : FileForm)
    (settings : Settings) (bytes input : List ℕ) (s : Status) (report out : List ℕ) → (work ≡ Four → ⊥)
    → IsDoneBehind told fs rose work how settings bytes input s report
    → IsRefusedAs work how bytes out → (s ≡ status.Refused) × (report ≡ out)
refused_exact told fs rose Four how settings bytes input s report out n d bad = absurd (n refl)
refused_exact told fs rose Verify how settings bytes input s report out n (inl x) bad =
    done_refused Verify how settings bytes input s report out (inl x) bad
refused_exact told fs rose Verify how settings bytes input s report out n (inr v) bad =
    absurd (image_not_refused bytes out v.0 v.1.0 v.1.1 bad)
refused_exact told fs rose Run how settings bytes input s report out n d bad =
    done_refused Run how settings bytes input s report out d bad
refused_exact told fs rose Evaluate how settings bytes input s report out n d bad =
    done_refused Evaluate how settings bytes input s report out d bad
refused_exact told fs rose Compile how settings bytes input s report out n d bad =
    done_refused Compile how settings bytes input s report out d bad
refused_exact told fs rose Listing how settings bytes input s report out n d bad =
    done_refused Listing how settings bytes input s report out d bad
refused_exact told fs rose Assemble how settings bytes input s report out n d bad =
    done_refused Assemble how settings bytes input s report out d bad
refused_exact told fs rose Disassemble how settings bytes input s report out n d bad =
    done_refused Disassemble how settings bytes input s report out d bad
refused_exact told fs rose Check how settings bytes input s report out n d bad =
    done_refused Check how settings bytes input s report out d bad
refused_exact told fs rose (Explain file) how settings bytes input s report out n d bad =
    done_refused (Explain file) how settings bytes input s report out d bad
refused_exact told fs rose (Trap file) how settings bytes input s report out n d bad =
    done_refused (Trap file) how settings bytes input s report out d bad
refused_exact told fs rose Save how settings bytes input s report out n d bad =
    done_refused Save how settings bytes input s report out d bad
refused_exact told fs rose Draw how settings bytes input s report out n d bad =
    done_refused Draw how settings bytes input s report out d bad
refused_exact told fs rose Record how settings bytes input s report out n d bad =
    done_refused Record how settings bytes input s report out d bad

-- with an accepted text under `eval`
pub eval_exact : (how : FileForm) (settings : Settings) (text input : List ℕ) (s : Status)
    (report : List ℕ) (program : TypedProgram) → IsDone Evaluate how settings text input s report
    → IsAccepted text program → IsEvaluation text program input settings.most s report
eval_exact how settings text input s report program (inl x) is =
    absurd (not_both text program x.1.0 is x.1.1)
eval_exact how settings text input s report program (inr run) is =
    subst (λ (p : TypedProgram). IsEvaluation text p input settings.most s report)
    (accepted_once text run.0 program run.1 is) run.2

-- with an accepted text under `explain`
pub explained_exact : (file : List ℕ) (how : FileForm) (settings : Settings) (text input : List ℕ) (s : Status)
    (report told : List ℕ) → IsDone (Explain file) how settings text input s report
    → IsAcceptedTold file text input settings.most told → (s ≡ status.Ended) × (report ≡ told)
explained_exact file how settings text input s report told (inl x) is =
    absurd (not_both_told file text input settings.most told x.0 is x.1)
explained_exact file how settings text input s report told (inr run) is =
    (run.1, accepted_told_once file text input settings.most report told run.0 is)

-- with an accepted text under `explain --trap`
pub trap_exact : (file : List ℕ) (how : FileForm) (settings : Settings) (text input : List ℕ) (s : Status)
    (report told : List ℕ) → IsDone (Trap file) how settings text input s report
    → IsAcceptedTold file text input settings.most told
    → (s ≡ status.Ended) × (trap : List ℕ) × IsTrapTold text input settings.most trap × (report ≡ told ++ trap)
trap_exact file how settings text input s report told (inl x) is =
    absurd (not_both_told file text input settings.most told x.0 is x.1)
trap_exact file how settings text input s report told (inr run) is = (
  run.1,
  run.0.1,
  run.0.3,
  run.0.4 ∙ ap (λ (t : List ℕ). t ++ run.0.1)
      (accepted_told_once file text input settings.most run.0.0 told run.0.2 is),
)

-- with an image of good blocks under `run`
pub image_exact : (settings : Settings) (bytes input : List ℕ) (s : Status) (report : List ℕ)
    (image : Image) → IsDone Run form.Image settings bytes input s report → ImageBytes image bytes
    → All IsGood image.blocks → IsRunBy image.blocks image.bytes input settings s report
image_exact settings bytes input s report image (inl x) spelled good =
    absurd (image_not_refused bytes x.0 image spelled good x.1)
image_exact settings bytes input s report image (inr run) spelled good =
    subst (λ (i : Image). IsRunBy i.blocks i.bytes input settings s report)
    (one_image run.0 image bytes run.1 spelled) run.3

-- with an accepted text under `run`
pub text_exact : (settings : Settings) (text input : List ℕ) (s : Status) (report : List ℕ)
    (program : TypedProgram) → IsDone Run form.Source settings text input s report
    → IsAccepted text program → IsRunOfText settings text input s report
text_exact settings text input s report program (inl x) is =
    absurd (not_both text program x.1.0 is x.1.1)
text_exact settings text input s report program (inr run) is = run

-- with the text of an image of good blocks under `run`
pub target_exact : (settings : Settings) (text input : List ℕ) (s : Status) (report : List ℕ)
    (image : Image) → IsDone Run form.Target settings text input s report → TargetFile image text
    → All IsGood image.blocks → IsRunBy image.blocks image.bytes input settings s report
target_exact settings text input s report image (inl x) spelled good =
    absurd (target_not_refused text x.0 image spelled good x.1)
target_exact settings text input s report image (inr run) spelled good =
    subst (λ (i : Image). IsRunBy i.blocks i.bytes input settings s report)
    (files.one_image run.0 image text run.1 spelled) run.3

-- with an accepted text under `compile`
pub compiled_exact : (how : FileForm) (settings : Settings) (text input : List ℕ) (s : Status)
    (report : List ℕ) (program : TypedProgram) → IsDone Compile how settings text input s report
    → IsAccepted text program → IsCompiled settings.placing settings.unroll text s report
compiled_exact how settings text input s report program (inl x) is =
    absurd (not_both text program x.1.0 is x.1.1)
compiled_exact how settings text input s report program (inr run) is = run

-- with an accepted text under `compile --listing`
pub listed_exact : (how : FileForm) (settings : Settings) (text input : List ℕ) (s : Status)
    (report : List ℕ) (program : TypedProgram) → IsDone Listing how settings text input s report
    → IsAccepted text program → IsListed settings.placing settings.unroll text s report
listed_exact how settings text input s report program (inl x) is =
    absurd (not_both text program x.1.0 is x.1.1)
listed_exact how settings text input s report program (inr run) is = run

-- a text is that of one spelling, and bytes are those of one text
one_spelling : (text a b : List ℕ) → IsAssembled text a → IsAssembled text b → a ≡ b
one_spelling text a b x y =
    x.2.spelled ∙ ap spelling (files.one_image x.0 y.0 text x.1 y.1) ∙ sym y.2.spelled

one_text : (bytes a b : List ℕ) → IsOneImage a bytes → IsOneImage b bytes → a ≡ b
one_text bytes a b x y =
    x.1.spelled ∙ ap asm.image_text (one_image x.0 y.0 bytes x.2 y.2) ∙ sym y.1.spelled

-- with the text of an image under `asm`
pub assembled_exact : (how : FileForm) (settings : Settings) (text input : List ℕ) (s : Status)
    (report bytes : List ℕ) → IsDone Assemble how settings text input s report
    → IsAssembled text bytes → (s ≡ status.Ended) × (report ≡ bytes)
assembled_exact how settings text input s report bytes (inl x) one =
    absurd (files.not_both one.0 text x.1.0 one.1 x.1.1)
assembled_exact how settings text input s report bytes (inr run) one =
    (run.1, one_spelling text report bytes run.0 one)

-- with an image under `dis`
pub disassembled_exact : (how : FileForm) (settings : Settings) (bytes input : List ℕ) (s : Status)
    (report text : List ℕ) → IsDone Disassemble how settings bytes input s report
    → IsOneImage text bytes → (s ≡ status.Ended) × (report ≡ text)
disassembled_exact how settings bytes input s report text (inl x) one =
    absurd (decoded.not_both one.0 bytes x.1.0 one.2 x.1.1)
disassembled_exact how settings bytes input s report text (inr run) one =
    (run.1, one_text bytes report text run.0 one)

-- with an image of good blocks under `check`
pub checked_exact : (how : FileForm) (settings : Settings) (bytes input : List ℕ) (s : Status)
    (report good : List ℕ) → IsDone Check how settings bytes input s report
    → IsGoodImage bytes good → (s ≡ status.Ended) × (report ≡ good)
checked_exact how settings bytes input s report good (inl x) is =
    absurd (image_not_refused bytes x.0 is.0 is.1 is.2 x.1)
checked_exact how settings bytes input s report good (inr run) is = (
  run.1,
  run.0.3 ∙ ap (λ (i : Image). good_report (length i.blocks)) (one_image run.0.0 is.0 bytes run.0.1 is.1)
      ∙ sym is.3,
)

-- with an image of good blocks under `record`
pub recorded_exact : (how : FileForm) (settings : Settings) (bytes input : List ℕ) (s : Status) (report : List ℕ)
    (image : Image) → IsDone Record how settings bytes input s report → ImageBytes image bytes
    → All IsGood image.blocks → TellsTrace image input settings.most s report
recorded_exact how settings bytes input s report image (inl x) spelled good =
    absurd (image_not_refused bytes x.0 image spelled good x.1)
recorded_exact how settings bytes input s report image (inr run) spelled good =
    subst (λ (i : Image). TellsTrace i input settings.most s report)
    (one_image run.0 image bytes run.1.0 spelled) run.2

-- with an image of good blocks and a trace under `verify`
pub verified_exact : (told : Option (List ℕ)) (fs : List Further) (rose : Type 0) (how : FileForm)
    (settings : Settings)
    (bytes input trace : List ℕ) (s : Status) (report : List ℕ) (image : Image)
    → IsDoneBehind told fs rose Verify how settings bytes input s report → (rose → ⊥) → told ≡ Some trace
    → ImageBytes image bytes → All IsGood image.blocks → IsVerdict image input trace s report
verified_exact told fs rose how settings bytes input trace s report image (inl x) r t spelled good =
    absurd (image_not_refused bytes x.0 image spelled good x.1)
verified_exact told fs rose how settings bytes input trace s report image (inr v) r t spelled good =
    subst (λ (i : Image). IsVerdict i input trace s report) (one_image v.0 image bytes v.1.0 spelled) (go v.2)
  where
    go : ((read : List ℕ) × Holds told read × IsVerdict v.0 input read s report)
        ⊎ (rose × IsFixed status.ReadFault read_fault_text s report) → IsVerdict v.0 input trace s report
    go (inl x) = subst (λ (read : List ℕ). IsVerdict v.0 input read s report) (told_text told trace x.0 t x.1) x.2
    go (inr u) = absurd (r u.0)
