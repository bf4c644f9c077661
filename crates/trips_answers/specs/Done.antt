-- What is done with the bytes of a file, said of texts, images and the machine alone: neither the compiler's passes
-- nor the grid stand in it.
use Rattle.std.specs.Prelude.{◌≡◌, ◌++◌, ◌-◌, ℕ, List, [], ◌∷◌, All}
use Rattle.trips_isa.specs.declared.block.Image.{Image}
use Rattle.c_tree.specs.declared.typed.TypedProgram.{TypedProgram}
use Rattle.c_front.specs.Fronts.{IsAccepted}
use Rattle.c_meaning_spec.specs.Laws.{IsInput}
use Rattle.c_compile.specs.Meant.{DoesText}
use Rattle.block_image.specs.Spelling.{ImageBytes}
use Rattle.block_check.specs.Faults.{IsGood}
use Rattle.target_file.specs.Files.{TargetFile}
use Rattle.trips_listing_answers.specs.Traps.{end_of, ending_told}
use Rattle.trips_tools.specs.Tools.{IsAssembled, IsGoodImage, IsOneImage}
use Rattle.trips_trace_answers.specs.TraceAnswers.{IsRecording}
use Rattle.trips_report.specs.declared.show.Show.{Show}
use Rattle.trips_answers.specs.Work.{Work}
use Rattle.trips_answers.specs.Work.{Run, Evaluate, Compile, Listing, Trap}
use Rattle.trips_answers.specs.Work.{Assemble, Disassemble, Check, Draw, Explain, Record, Verify, Save, Four}
use Rattle.trips_requests.specs.declared.status.Status.{Status}
use Rattle.trips_requests.specs.declared.status.Status.TheVariants as status
use Rattle.trips_eval_answers.specs.Evaluation.{IsEvaluationOf}
use Rattle.trips_explain_answers.specs.Explained.{IsAcceptedTold}
use Rattle.trips_answers.specs.declared.forms.FileForm.{FileForm}
use Rattle.trips_answers.specs.declared.forms.FileForm.TheVariants as form
use Rattle.trips_answers.specs.Report.{TellsRun}
use Rattle.trips_draw_answers.specs.Drawn.{IsBlockDrawn}
use Rattle.trips_grid_answers.specs.Report.{TellsRunFrom}
use Rattle.trips_grid_answers.specs.Saved.{IsSavedRun}
use Rattle.trips_four_answers.specs.Report.{TellsFour}
use Rattle.machine_save.specs.Spelling.{SaveBytes}
use Rattle.trips_isa.specs.Machine.{State}
use Rattle.trips_answers.specs.Traced.{IsTraceVerified}

-- the text is a program of C, as lexer, grammar and typing have it
abbrev pub IsProgram : List ℕ → Type 0
IsProgram text = (program : TypedProgram) × IsAccepted text program

-- the bytes of a file are those of this image, or its target text, and each of its blocks is good
abbrev pub IsImageIn : FileForm → List ℕ → Image → Type 0
IsImageIn form.Source text image = ⊥
IsImageIn form.Target text image = TargetFile image text × All IsGood image.blocks
IsImageIn form.Image bytes image = ImageBytes image bytes × All IsGood image.blocks
IsImageIn form.Saved bytes image = ⊥

-- the image that a run has, by what its file is read as: of a text of C one that does what the text means
abbrev pub IsImageFor : FileForm → ℕ → List ℕ → Image → Type 0
IsImageFor form.Source unroll text image = DoesText text unroll image
IsImageFor form.Target unroll text image = IsImageIn form.Target text image
IsImageFor form.Image unroll bytes image = IsImageIn form.Image bytes image
IsImageFor form.Saved unroll bytes image = ⊥

-- the images that runs have of files, each by what it is read as
abbrev pub AreImagesFor : ℕ → List (FileForm × List ℕ) → List Image → Type 0
AreImagesFor unroll [] [] = Unit {0}
AreImagesFor unroll (file ∷ files) (image ∷ images) =
    IsImageFor file.0 unroll file.1 image × AreImagesFor unroll files images
AreImagesFor unroll files images = ⊥

-- A tool makes this of the bytes of its file: `asm` the bytes of the text's image, `dis` the text of the image,
-- `check` the report on an image of good blocks. Each is made of the bytes alone. What `explain` tells of an accepted
-- file begins with its name; a text of C is evaluated on the input, within so many steps.
abbrev pub Makes : Work → ℕ → List ℕ → List ℕ → List ℕ → Type 0
Makes Assemble most text input made = IsAssembled text made
Makes Disassemble most bytes input made = IsOneImage made bytes
Makes Check most bytes input made = IsGoodImage bytes made
Makes (Explain file) most text input made = IsAcceptedTold file text input most made
Makes work most bytes input made = ⊥

-- an image can be made of the bytes of a file, by what it is read as
abbrev pub CanBeImage : FileForm → List ℕ → Type 0
CanBeImage form.Source text = IsProgram text
CanBeImage form.Target text = (image : Image) × IsImageIn form.Target text image
CanBeImage form.Image bytes = (image : Image) × IsImageIn form.Image bytes image
CanBeImage form.Saved bytes = ⊥

-- The work can be done with the bytes of a file: a row for each command and each form of its file.
abbrev pub CanBeDone : Work → FileForm → List ℕ → Type 0
CanBeDone Evaluate how text = IsProgram text
CanBeDone Run form.Source text = IsProgram text
CanBeDone Run form.Target text = (image : Image) × IsImageIn form.Target text image
CanBeDone Run form.Image bytes = (image : Image) × IsImageIn form.Image bytes image
CanBeDone Run form.Saved bytes = (image : Image) × (t : State) × SaveBytes image t bytes
CanBeDone Save how bytes = CanBeImage how bytes
CanBeDone Four how bytes = CanBeImage how bytes
CanBeDone Draw how bytes = CanBeImage how bytes
CanBeDone Compile how text = IsProgram text
CanBeDone Listing how text = IsProgram text
CanBeDone Assemble how text = (made : List ℕ) × IsAssembled text made
CanBeDone Disassemble how bytes = (made : List ℕ) × IsOneImage made bytes
CanBeDone Check how bytes = (made : List ℕ) × IsGoodImage bytes made
CanBeDone (Explain file) how text =
    (most : ℕ) × (input : List ℕ) × (made : List ℕ) × IsAcceptedTold file text input most made
CanBeDone (Trap file) how text =
    (most : ℕ) × (input : List ℕ) × (made : List ℕ) × IsAcceptedTold file text input most made
CanBeDone Record how bytes = (image : Image) × IsImageIn form.Image bytes image
CanBeDone Verify how bytes = (image : Image) × IsImageIn form.Image bytes image

-- each of some files can be run
abbrev pub CanBeRun : List (FileForm × List ℕ) → Type 0
CanBeRun [] = Unit {0}
CanBeRun (file ∷ files) = CanBeDone Four file.0 file.1 × CanBeRun files

-- The bytes of an image are written that does what the text means, by blocks of at most so many turns of a loop, and
-- each of whose blocks is good.
abbrev pub WritesImage : List ℕ → ℕ → List ℕ → Type 0
WritesImage text unroll bytes =
    (image : Image) × DoesText text unroll image × All IsGood image.blocks × ImageBytes image bytes

-- A target text is written of an image that does what the text means, by blocks of at most so many turns of a loop, and
-- each of whose blocks is good; its comments say what comes from where.
abbrev pub WritesListing : List ℕ → ℕ → List ℕ → Type 0
WritesListing text unroll listing =
    (image : Image) × DoesText text unroll image × All IsGood image.blocks × TargetFile image listing

-- This is told of how the machine's run ends, within so many blocks, of an image that does what the text means: where
-- it traps, at which block, and behind that what there is to say of each block of the image.
abbrev pub TellsTrap : List ℕ → List ℕ → ℕ → List ℕ → Type 0
TellsTrap text input most trap = (image : Image) × DoesText text 1 image × (block_told : ℕ → List ℕ)
    × (trap ≡ ending_told most block_told (end_of image input most))

-- The work is done with the bytes of the file and of the input, by blocks of at most so many turns of a loop, within
-- so many blocks or steps, where this is shown: the status and the report tell it.
abbrev pub DoesWork : Work → FileForm → ℕ → ℕ → Show → List ℕ → List ℕ → Status → List ℕ → Type 0
DoesWork Evaluate how unroll most show text input s report = IsEvaluationOf most text input s report
DoesWork Run form.Source unroll most show text input s report =
    (image : Image) × DoesText text unroll image × IsInput input × TellsRun image input most show s report
DoesWork Run form.Target unroll most show text input s report =
    (image : Image) × IsImageIn form.Target text image × TellsRun image input most show s report
DoesWork Run form.Image unroll most show bytes input s report =
    (image : Image) × IsImageIn form.Image bytes image × TellsRun image input most show s report
DoesWork Run form.Saved unroll most show bytes input s report =
    (image : Image) × (t : State) × SaveBytes image t bytes × (t.trace ≡ [])
    × TellsRunFrom image.blocks t most show s report
DoesWork Save how unroll most show bytes input s report =
    (image : Image) × IsImageFor how unroll bytes image × IsSavedRun image input most s report
DoesWork Four how unroll most show bytes input s report = (others : List (FileForm × List ℕ))
    × (images : List Image) × AreImagesFor unroll ((how, bytes) ∷ others) images
    × TellsFour images input most show.cycles s report
DoesWork Draw how unroll most show bytes input s report =
    (image : Image) × IsImageFor how unroll bytes image × IsBlockDrawn image.blocks (most - 1) s report
DoesWork Compile how unroll most show text input s report = WritesImage text unroll report × (s ≡ status.Ended)
DoesWork Listing how unroll most show text input s report = WritesListing text unroll report × (s ≡ status.Ended)
DoesWork Assemble how unroll most show text input s report =
    Makes Assemble most text input report × (s ≡ status.Ended)
DoesWork Disassemble how unroll most show bytes input s report =
    Makes Disassemble most bytes input report × (s ≡ status.Ended)
DoesWork Check how unroll most show bytes input s report =
    Makes Check most bytes input report × (s ≡ status.Ended)
DoesWork (Explain file) how unroll most show text input s report =
    Makes (Explain file) most text input report × (s ≡ status.Ended)
DoesWork (Trap file) how unroll most show text input s report = (told : List ℕ) × (trap : List ℕ)
    × Makes (Explain file) most text input told × TellsTrap text input most trap × (report ≡ told ++ trap)
    × (s ≡ status.Ended)
DoesWork Record how unroll most show bytes input s report = IsRecording most bytes input s report
DoesWork Verify how unroll most show bytes input s report =
    (trace : List ℕ) × IsTraceVerified bytes input trace s report
