-- What the program promises in plain words, from the table.
use Rattle.std.proofs.Common.{◌≡◌, ◌≢◌, ℕ, ◌-◌, ◌++◌, List, [], ◌∷◌, Option, Some, inl, inr}
use Rattle.trips_isa.specs.declared.block.Image.{Image}
use Rattle.trips_isa.specs.Machine.{State, start}
use Rattle.c_tree.specs.declared.typed.TypedProgram.{TypedProgram}
use Rattle.c_front.specs.Fronts.{IsAccepted}
use Rattle.c_compile.specs.Images.{MeansText}
use Rattle.c_compile.specs.Meant.{DoesText}
use Rattle.c_compile.proofs.Images.{images_mean}
use Rattle.trips_listing_answers.proofs.Bare.{tells_images}
use Rattle.c_compile.proofs.Meant.{does_text, good_blocks}
use Rattle.trips_report.specs.declared.show.Show.{Show}
use Rattle.machine_save.specs.Spelling.{SaveBytes}
use Rattle.trips_grid_answers.specs.Report.{TellsRunFrom}
use Rattle.trips_draw_answers.specs.Drawn.{IsBlockDrawn}
use Rattle.trips_grid_answers.specs.Saved.{IsSavedRun}
use Rattle.trips_trace_answers.specs.TraceAnswers.{IsVerdict, TellsTrace}
use Rattle.trips_four_answers.specs.Report.{TellsFour}
use Rattle.trips_answers.specs.Work.{Work}
use Rattle.trips_answers.specs.Work.{Run, Evaluate, Compile, Listing, Trap}
use Rattle.trips_answers.specs.Work.{Assemble, Disassemble, Check, Draw, Explain, Record, Verify, Save, Four}
use Rattle.trips_requests.specs.declared.status.Status.{Status}
use Rattle.trips_requests.specs.declared.status.Status.TheVariants as status
use Rattle.trips_requests.specs.Table.{IsOneOf, IsWritten, Reports, Wrote}
use Rattle.trips_requests.specs.Texts.{too_large_text}
use Rattle.trips_requests.proofs.Written.{written_so}
use Rattle.trips_answers.specs.declared.forms.FileForm.{FileForm}
use Rattle.trips_answers.specs.declared.forms.FileForm.TheVariants as form
use Rattle.trips_answers.specs.Request.{Request}
use Rattle.trips_answers.specs.Settings.{settings_with}
use Rattle.trips_answers.specs.Asks.{AsksFor}
use Rattle.trips_answers.specs.Report.{TellsRun}
use Rattle.trips_answers.specs.Answer.{IsAnswer}
use Rattle.trips_answers.specs.Table.{IsAnswered}
use Rattle.trips_answers.specs.Evaluated.{ResultTells}
use Rattle.trips_answers.specs.Done.{AreImagesFor, CanBeRun, IsImageIn, Makes, WritesImage, WritesListing, TellsTrap}
use Rattle.trips_answers.specs.Fours.{AreTold, Program, further_of}
use Rattle.trips_answers.specs.Causes.{EndsWork, HasCauses, IsTooLarge, MayAnswer, RefusesUnfit}
use Rattle.trips_answers.proofs.Causes as causes
use Rattle.trips_answers.proofs.FourExact as four
use Rattle.trips_answers.proofs.Reported as reported
use Rattle.trips_answers.proofs.ShownRuns as shown
use Rattle.trips_answers.proofs.Plainly.{answer_so, ends_work, images_for, may_be_unfit, reported_tells, result_tells}
use Rattle.trips_answers.proofs.Plainly.{trap_does}
use Rattle.trips_explain_answers.specs.Explained.{IsAcceptedTold}

module _ (held : List ℕ → Option (List ℕ)) (rose : Type 0) (old new : Option (List ℕ))
    (cut : Type 0) (q : Option Request) (s : Status) (a : IsAnswered q held rose old new cut s) where
  -- the run of an image that does what the text means
  pub text_run : (most : ℕ) (show : Show) (text input : List ℕ) (program : TypedProgram)
      → (asks : AsksFor q held Run form.Source most show text input) → IsAccepted text program
      → (rose → ⊥) → (cut → ⊥) → s ≢ status.Memory
      → (image : Image) × DoesText text asks.q.unroll image × Wrote old new (TellsRun image input most show s)
  text_run most show text input program asks is r c m =
      let run = shown.text_run held rose old new cut q s a most show text input program asks is r c m in (
        run.0,
        does_text text asks.q.placing asks.q.unroll run.0
            (images_mean text asks.q.placing asks.q.unroll run.0 run.1),
        reported_tells run.0.blocks (start run.0.bytes input) (settings_with asks.q most show) s old new run.2,
      )

  -- the run of an image, or of that of a target text
  pub image_run : (how : FileForm) (most : ℕ) (show : Show) (bytes input : List ℕ) (image : Image)
      → AsksFor q held Run how most show bytes input → IsImageIn how bytes image
      → (rose → ⊥) → (cut → ⊥) → s ≢ status.Memory → Wrote old new (TellsRun image input most show s)
  image_run form.Source most show bytes input image asks is r c m = absurd is
  image_run form.Target most show bytes input image asks is r c m =
      reported_tells image.blocks (start image.bytes input) (settings_with asks.q most show) s old new
      (shown.target_run held rose old new cut q s a most show bytes input image asks is.0 is.1 r c m)
  image_run form.Saved most show bytes input image asks is r c m = absurd is
  image_run form.Image most show bytes input image asks is r c m =
      reported_tells image.blocks (start image.bytes input) (settings_with asks.q most show) s old new
      (shown.image_run held rose old new cut q s a most show bytes input image asks is.0 is.1 r c m)

  -- the run that goes on from a saved state
  pub resumed : (most : ℕ) (show : Show) (bytes input : List ℕ) (image : Image) (t : State)
      → AsksFor q held Run form.Saved most show bytes input → SaveBytes image t bytes
      → (rose → ⊥) → (cut → ⊥) → s ≢ status.Memory
      → Wrote old new (TellsRunFrom image.blocks (record t { trace = [] }) most show s)
  resumed most show bytes input image t asks is r c m =
      reported_tells image.blocks (record t { trace = [] }) (settings_with asks.q most show) s old new
      (shown.resumed held rose old new cut q s a most show bytes input image t asks is r c m)

  -- the saved run of an image, or of that of a target text
  pub saved : (how : FileForm) (most : ℕ) (show : Show) (bytes input : List ℕ) (image : Image)
      → AsksFor q held Save how most show bytes input → IsImageIn how bytes image
      → (rose → ⊥) → (cut → ⊥) → s ≢ status.Memory → Wrote old new (IsSavedRun image input most s)
  saved form.Source most show bytes input image asks is r c m = absurd is
  saved form.Saved most show bytes input image asks is r c m = absurd is
  saved form.Target most show bytes input image asks is r c m =
      reported.saved_target held rose old new cut q s a most show bytes input image asks is.0 is.1 r c m
  saved form.Image most show bytes input image asks is r c m =
      reported.saved_image held rose old new cut q s a most show bytes input image asks is.0 is.1 r c m

  -- that of an image that does what the text means
  pub saved_text : (most : ℕ) (show : Show) (text input : List ℕ) (program : TypedProgram)
      → (asks : AsksFor q held Save form.Source most show text input) → IsAccepted text program
      → (rose → ⊥) → (cut → ⊥) → s ≢ status.Memory
      → (image : Image) × DoesText text asks.q.unroll image × Wrote old new (IsSavedRun image input most s)
  saved_text most show text input program asks is r c m =
      let run = reported.saved_text held rose old new cut q s a most show text input program asks is r c m in (
        run.0,
        does_text text asks.q.placing asks.q.unroll run.0
            (images_mean text asks.q.placing asks.q.unroll run.0 run.1),
        run.2,
      )

  -- the block that is drawn of an image, or of that of a target text
  pub drawn : (how : FileForm) (most : ℕ) (show : Show) (bytes input : List ℕ) (image : Image)
      → AsksFor q held Draw how most show bytes input → IsImageIn how bytes image
      → (rose → ⊥) → (cut → ⊥) → s ≢ status.Memory → Wrote old new (IsBlockDrawn image.blocks (most - 1) s)
  drawn form.Source most show bytes input image asks is r c m = absurd is
  drawn form.Saved most show bytes input image asks is r c m = absurd is
  drawn form.Target most show bytes input image asks is r c m =
      reported.drawn_target held rose old new cut q s a most show bytes input image asks is.0 is.1 r c m
  drawn form.Image most show bytes input image asks is r c m =
      reported.drawn_image held rose old new cut q s a most show bytes input image asks is.0 is.1 r c m

  -- that of an image that does what the text means
  pub drawn_text : (most : ℕ) (show : Show) (text input : List ℕ) (program : TypedProgram)
      → (asks : AsksFor q held Draw form.Source most show text input) → IsAccepted text program
      → (rose → ⊥) → (cut → ⊥) → s ≢ status.Memory
      → (image : Image) × DoesText text asks.q.unroll image × Wrote old new (IsBlockDrawn image.blocks (most - 1) s)
  drawn_text most show text input program asks is r c m =
      let run = reported.drawn_text held rose old new cut q s a most show text input program asks is r c m in (
        run.0,
        does_text text asks.q.placing asks.q.unroll run.0
            (images_mean text asks.q.placing asks.q.unroll run.0 run.1),
        run.2,
      )

  -- what is compiled
  pub compiled : (how : FileForm) (most : ℕ) (show : Show) (text input : List ℕ) (program : TypedProgram)
      → (asks : AsksFor q held Compile how most show text input) → IsAccepted text program
      → (rose → ⊥) → (cut → ⊥) → s ≢ status.Memory
      → (bytes : List ℕ) × WritesImage text asks.q.unroll bytes × Reports s old new status.Ended bytes
  compiled how most show text input program asks is r c m =
      let made = reported.compiled held rose old new cut q s a how most show text input program asks is r c m in
      let means : MeansText text asks.q.placing asks.q.unroll made.0 =
      images_mean text asks.q.placing asks.q.unroll made.0 made.1 in (
        made.2,
        (
          made.0,
          does_text text asks.q.placing asks.q.unroll made.0 means,
          good_blocks text asks.q.placing asks.q.unroll made.0 means,
          made.3,
        ),
        (made.4, made.5),
      )

  -- what is listed
  pub listed : (how : FileForm) (most : ℕ) (show : Show) (text input : List ℕ) (program : TypedProgram)
      → (asks : AsksFor q held Listing how most show text input) → IsAccepted text program
      → (rose → ⊥) → (cut → ⊥) → s ≢ status.Memory
      → (listing : List ℕ) × WritesListing text asks.q.unroll listing × Reports s old new status.Ended listing
  listed how most show text input program asks is r c m =
      let made = reported.listed held rose old new cut q s a how most show text input program asks is r c m in
      let told = tells_images text asks.q.placing asks.q.unroll made.0 made.1 in
      let means : MeansText text asks.q.placing asks.q.unroll told.0 =
      images_mean text asks.q.placing asks.q.unroll told.0 told.1 in (
        made.0,
        (
          told.0,
          does_text text asks.q.placing asks.q.unroll told.0 means,
          good_blocks text asks.q.placing asks.q.unroll told.0 means,
          told.2,
        ),
        (made.2, made.3),
      )

  -- what a tool makes
  pub made : (work : Work) (how : FileForm) (most : ℕ) (show : Show) (bytes input out : List ℕ)
      → AsksFor q held work how most show bytes input → Makes work most bytes input out
      → (rose → ⊥) → (cut → ⊥) → s ≢ status.Memory → Reports s old new status.Ended out
  made Run how most show bytes input out asks is r c m = absurd is
  made Evaluate how most show bytes input out asks is r c m = absurd is
  made Compile how most show bytes input out asks is r c m = absurd is
  made (Trap file) how most show bytes input out asks is r c m = absurd is
  made Listing how most show bytes input out asks is r c m = absurd is
  made Record how most show bytes input out asks is r c m = absurd is
  made Verify how most show bytes input out asks is r c m = absurd is
  made Save how most show bytes input out asks is r c m = absurd is
  made Four how most show bytes input out asks is r c m = absurd is
  made Draw how most show bytes input out asks is r c m = absurd is
  made Assemble how most show bytes input out asks is r c m =
      reported.assembled held rose old new cut q s a how most show bytes input out asks is r c m
  made Disassemble how most show bytes input out asks is r c m =
      reported.disassembled held rose old new cut q s a how most show bytes input out asks is r c m
  made Check how most show bytes input out asks is r c m =
      reported.checked held rose old new cut q s a how most show bytes input out asks is r c m
  made (Explain file) how most show bytes input out asks is r c m =
      reported.explained held rose old new cut q s a file how most show bytes input out asks is r c m

  -- what is told of a trap
  pub trapped : (file : List ℕ) (how : FileForm) (most : ℕ) (show : Show) (text input told : List ℕ)
      → AsksFor q held (Trap file) how most show text input → IsAcceptedTold file text input most told
      → (rose → ⊥) → (cut → ⊥) → s ≢ status.Memory
      → (trap : List ℕ) × TellsTrap text input most trap × Reports s old new status.Ended (told ++ trap)
  trapped file how most show text input told asks is r c m =
      let made = reported.trapped held rose old new cut q s a file how most show text input told asks is r c m in
      (made.0, trap_does text input most made.0 made.1, (made.2, made.3))

  -- the trace of a run
  pub recorded : (how : FileForm) (most : ℕ) (show : Show) (bytes input : List ℕ) (image : Image)
      → AsksFor q held Record how most show bytes input → IsImageIn form.Image bytes image
      → (rose → ⊥) → (cut → ⊥) → s ≢ status.Memory → Wrote old new (TellsTrace image input most s)
  recorded how most show bytes input image asks is r c m =
      reported.recorded held rose old new cut q s a how most show bytes input image asks is.0 is.1 r c m

  -- the runs of four files
  pub fours : (how : FileForm) (most : ℕ) (show : Show) (bytes input : List ℕ) (others : List Program)
      → (asks : AsksFor q held Four how most show bytes input) → AreTold (further_of held asks.q) others
      → CanBeRun ((how, bytes) ∷ others) → (rose → ⊥) → (cut → ⊥) → s ≢ status.Memory
      → (images : List Image) × AreImagesFor asks.q.unroll ((how, bytes) ∷ others) images
      × Wrote old new (TellsFour images input most show.cycles s)
  fours how most show bytes input others asks told can r c m =
      let run = four.runs held rose old new cut q s a how most show bytes input others asks told r c m can in (
        run.0,
        images_for (settings_with asks.q most show) ((how, bytes) ∷ others) run.0 run.1,
        (run.2.0, (run.2.1.made, run.2.1.within, run.2.1.told), run.2.2),
      )

  -- the verdict on a trace
  pub verified : (how : FileForm) (most : ℕ) (show : Show) (bytes input trace : List ℕ) (image : Image)
      → (asks : AsksFor q held Verify how most show bytes input) → held asks.q.trace ≡ Some trace
      → IsImageIn form.Image bytes image → (rose → ⊥) → (cut → ⊥) → s ≢ status.Memory
      → Wrote old new (IsVerdict image input trace s)
  verified how most show bytes input trace image asks told is r c m =
      reported.verified held rose old new cut q s a how most show bytes input trace image asks told is.0 is.1 r c m

  -- what is too large
  pub too_large : (x : Request) → q ≡ Some x → IsTooLarge x held → (rose → ⊥) → (cut → ⊥) → s ≢ status.Memory
      → Reports s old new status.Refused too_large_text
  too_large x e (inl large) r c m = reported.too_large_file held rose old new cut q s a x e large r c m
  too_large x e (inr large) r c m = reported.too_large_input held rose old new cut q s a x e large r c m

  -- what is refused
  pub unfit : RefusesUnfit q held s
  unfit = record {
    usage = λ e. causes.usage_comes held rose old new cut q s a e;
    unfit = λ bad. causes.unfit_comes held rose old new cut q s a bad;
  }

  -- the causes
  pub has_causes : HasCauses q held rose cut old new s
  has_causes = record {
    usage = λ e. causes.usage_only held rose old new cut q s a e;
    read_fault = λ e. causes.read_fault held rose old new cut q s a e;
    refused = λ e. may_be_unfit q held (causes.refused_only held rose old new cut q s a e);
    write_fault = λ e. causes.write_fault held rose old new cut q s a e;
    memory = λ e. causes.memory held rose old new cut q s a e;
  }

  -- how the work ended
  pub ends : IsOneOf s
      (status.Ended ∷ status.Budget ∷ status.StackFull ∷ status.Trap ∷ status.Undefined ∷ status.Aborted ∷ [])
      → (x : Request) × (q ≡ Some x) × EndsWork held x s
  ends one =
      let told = causes.end_told held rose old new cut q s one in
      let x = causes.asked_end held rose old new cut q s a told in
      (x.0, x.1, ends_work held x.0 s (causes.ends held rose old new cut q s a x.0 x.1 told))

  -- what a result says
  pub result : (x : Request) → q ≡ Some x → x.work ≡ Run → x.form ≡ form.Source → s ≡ status.Ended
      → ResultTells held x old new
  result x e w f ended =
      result_tells held x s old new (causes.result_means held rose old new cut q s a x e w f ended)

  -- the table
  pub answered : IsWritten (MayAnswer q held rose) old new cut s
  answered = written_so (IsAnswer q held rose) (MayAnswer q held rose) old new cut s
      (λ t report h. answer_so q held rose t report h) a
