-- What is done with the bytes of a file: the status and the report.
use Rattle.std.specs.Prelude.{◌≡◌, ◌⊎◌, ◌-◌, ◌++◌, ℕ, List, [], ◌∷◌, Option, All}
use Rattle.trips_isa.specs.declared.block.Block.{Block}
use Rattle.trips_isa.specs.declared.block.Image.{Image}
use Rattle.trips_isa.specs.Machine.{start}
use Rattle.c_compile.specs.Images.{IsImageOf}
use Rattle.trips_listing_answers.specs.Listings.{IsListing}
use Rattle.trips_listing_answers.specs.Traps.{IsTrapTold}
use Rattle.c_meaning_spec.specs.Laws.{IsInput}
use Rattle.grid_place.specs.declared.placed.Placing.{Placing}
use Rattle.block_image.specs.Spelling.{ImageBytes}
use Rattle.block_check.specs.Faults.{IsGood}
use Rattle.target_file.specs.Files.{TargetFile}
use Rattle.trips_tools.specs.Tools.{IsAssembled, IsGoodImage, IsOneImage}
use Rattle.trips_trace_answers.specs.TraceAnswers.{IsRecording, IsRefusedImage, IsVerified}
use Rattle.trips_answers.specs.Work.{Work}
use Rattle.trips_answers.specs.Work.{Run, Evaluate, Compile, Listing, Trap}
use Rattle.trips_answers.specs.Work.{Assemble, Disassemble, Check, Draw, Explain, Record, Verify, Save, Four}
use Rattle.trips_answers.specs.declared.forms.FileForm.{FileForm}
use Rattle.trips_answers.specs.declared.forms.FileForm.TheVariants as form
use Rattle.trips_answers.specs.declared.forms.Settings.{Settings}
use Rattle.trips_requests.specs.declared.status.Status.{Status}
use Rattle.trips_requests.specs.declared.status.Status.TheVariants as status
use Rattle.trips_requests.specs.Texts.{IsFixed}
use Rattle.trips_eval_answers.specs.Evaluation.{IsEvaluationOf}
use Rattle.trips_explain_answers.specs.Explained.{IsAcceptedTold}
use Rattle.trips_answers.specs.Refused.{IsRefusedAs}
use Rattle.trips_draw_answers.specs.Drawn.{IsBlockDrawn}
use Rattle.trips_grid_answers.specs.Runs.{IsRunFrom}
use Rattle.trips_grid_answers.specs.Saved.{IsResumedRun, IsSavedRun}
use Rattle.trips_answers.specs.Traced.{IsTraceVerified}
use Rattle.trips_answers.specs.Fours.{AreImagesBy, Further, IsFourDone, IsImageBy, Program}
use Rattle.trips_four_answers.specs.Runs.{IsFourRun}

-- Runs ------------------------------------------------------------------------------------------

-- These tell the sequential machine's run of an image on an input, within a budget of blocks, and what the grid
-- counted of it.
abbrev pub IsRunBy : List Block → List ℕ → List ℕ → Settings → Status → List ℕ → Type 0
IsRunBy blocks bytes input settings s report =
    IsRunFrom blocks (start bytes input) settings.conditions settings.most settings.show s report

-- What is done with the bytes of a file -------------------------------------------------------

-- the image that is compiled from the text is run, on an input of bytes
abbrev pub IsRunOfText : Settings → List ℕ → List ℕ → Status → List ℕ → Type 0
IsRunOfText settings text input s report = (image : Image) × IsImageOf text settings.placing settings.unroll image
    × IsInput input × IsRunBy image.blocks image.bytes input settings s report

-- the image is run, all of whose blocks are good
abbrev pub IsRunOfImage : Settings → List ℕ → List ℕ → Status → List ℕ → Type 0
IsRunOfImage settings bytes input s report = (image : Image) × ImageBytes image bytes
    × All IsGood image.blocks × IsRunBy image.blocks image.bytes input settings s report

-- the image of the target text is run, all of whose blocks are good
abbrev pub IsRunOfTarget : Settings → List ℕ → List ℕ → Status → List ℕ → Type 0
IsRunOfTarget settings text input s report = (image : Image) × TargetFile image text
    × All IsGood image.blocks × IsRunBy image.blocks image.bytes input settings s report

-- the run of the image that is compiled from the text is saved, or it is over
abbrev pub IsSaveOfText : Settings → List ℕ → List ℕ → Status → List ℕ → Type 0
IsSaveOfText settings text input s report = (image : Image) × IsImageOf text settings.placing settings.unroll image
    × IsSavedRun image input settings.most s report

-- so is the run of the image, all of whose blocks are good
abbrev pub IsSaveOfImage : Settings → List ℕ → List ℕ → Status → List ℕ → Type 0
IsSaveOfImage settings bytes input s report = (image : Image) × ImageBytes image bytes
    × All IsGood image.blocks × IsSavedRun image input settings.most s report

-- so is the run of the image of the target text, all of whose blocks are good
abbrev pub IsSaveOfTarget : Settings → List ℕ → List ℕ → Status → List ℕ → Type 0
IsSaveOfTarget settings text input s report = (image : Image) × TargetFile image text
    × All IsGood image.blocks × IsSavedRun image input settings.most s report

-- the image that is compiled from the text is written
abbrev pub IsCompiled : Placing → ℕ → List ℕ → Status → List ℕ → Type 0
IsCompiled placing unroll text s report = (image : Image) × IsImageOf text placing unroll image
    × ImageBytes image report × (s ≡ status.Ended)

-- the image that is compiled from the text is listed
abbrev pub IsListed : Placing → ℕ → List ℕ → Status → List ℕ → Type 0
IsListed placing unroll text s report = IsListing text placing unroll report × (s ≡ status.Ended)

-- the accepted text is explained, and it is told where in it the run of its image traps
abbrev pub IsTrapExplained : List ℕ → List ℕ → List ℕ → ℕ → List ℕ → Type 0
IsTrapExplained file text input most report = (told : List ℕ) × (trap : List ℕ)
    × IsAcceptedTold file text input most told × IsTrapTold text input most trap × (report ≡ told ++ trap)

-- The work is done with the bytes of the file and of the input, by these settings: a row for each
-- command and each form of its file.
abbrev pub IsWorked : Work → FileForm → Settings → List ℕ → List ℕ → Status → List ℕ → Type 0
IsWorked Evaluate how settings text input s report = IsEvaluationOf settings.most text input s report
IsWorked Run form.Source settings text input s report = IsRunOfText settings text input s report
IsWorked Run form.Target settings text input s report = IsRunOfTarget settings text input s report
IsWorked Run form.Image settings bytes input s report = IsRunOfImage settings bytes input s report
IsWorked Run form.Saved settings bytes input s report =
    IsResumedRun bytes settings.conditions settings.most settings.show s report
IsWorked Save form.Source settings text input s report = IsSaveOfText settings text input s report
IsWorked Save form.Target settings text input s report = IsSaveOfTarget settings text input s report
IsWorked Save form.Image settings bytes input s report = IsSaveOfImage settings bytes input s report
IsWorked Save form.Saved settings bytes input s report = ⊥
IsWorked Four how settings bytes input s report = (others : List Program) × (images : List Image)
    × AreImagesBy settings ((how, bytes) ∷ others) images
    × IsFourRun images input settings.seed settings.most settings.show.cycles s report
IsWorked Draw how settings bytes input s report = (image : Image) × IsImageBy how settings bytes image
    × IsBlockDrawn image.blocks (settings.most - 1) s report
IsWorked Compile how settings text input s report = IsCompiled settings.placing settings.unroll text s report
IsWorked Listing how settings text input s report = IsListed settings.placing settings.unroll text s report
IsWorked Assemble how settings text input s report = IsAssembled text report × (s ≡ status.Ended)
IsWorked Disassemble how settings bytes input s report = IsOneImage report bytes × (s ≡ status.Ended)
IsWorked Check how settings bytes input s report = IsGoodImage bytes report × (s ≡ status.Ended)
IsWorked (Explain file) how settings text input s report =
    IsAcceptedTold file text input settings.most report × (s ≡ status.Ended)
IsWorked (Trap file) how settings text input s report =
    IsTrapExplained file text input settings.most report × (s ≡ status.Ended)
IsWorked Record how settings bytes input s report = IsRecording settings.most bytes input s report
IsWorked Verify how settings bytes input s report = (trace : List ℕ) × IsTraceVerified bytes input trace s report

-- the bytes of the file are refused with the report that says why
abbrev pub IsRefusal : Work → FileForm → List ℕ → Status → List ℕ → Type 0
IsRefusal work how bytes s report =
    (text : List ℕ) × IsRefusedAs work how bytes text × IsFixed status.Refused text s report

-- they are refused, or the work is done
abbrev pub IsDone : Work → FileForm → Settings → List ℕ → List ℕ → Status → List ℕ → Type 0
IsDone work how settings bytes input s report =
    IsRefusal work how bytes s report ⊎ IsWorked work how settings bytes input s report

-- That, and of `verify` what comes of the trace's file, of `four` of the further files: of what their names hold, as
-- far as that is told, and of whether the count of the files' faults rose.
abbrev pub IsDoneBehind : Option (List ℕ) → List Further → Type 0 → Work → FileForm → Settings → List ℕ → List ℕ
    → Status → List ℕ → Type 0
IsDoneBehind told fs rose Verify how settings bytes input s report =
    IsRefusedImage bytes s report ⊎ IsVerified bytes input told rose s report
IsDoneBehind told fs rose Four how settings bytes input s report =
    IsFourDone fs rose settings ((how, bytes) ∷ []) input s report
IsDoneBehind told fs rose work how settings bytes input s report = IsDone work how settings bytes input s report
