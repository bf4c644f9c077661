-- What is written where the request's file and input are told and nothing fails.
use Rattle.std.proofs.Common.{◌≡◌, ◌≢◌, ℕ, ℤ, ◌+◌, ◌-◌, ◌*◌, ◌≤◌, List, Option, Some}
use Rattle.std.proofs.Common.{All, refl, subst, ◌++◌}
use Rattle.trips_outside.specs.Outside.{Appended}
use Rattle.trips_isa.specs.declared.block.Image.{Image}
use Rattle.trips_isa.specs.Machine.{runs, start}
use Rattle.c_tree.specs.declared.typed.TypedProgram.{TypedProgram}
use Rattle.c_meaning_spec.specs.declared.signal.Ending.TheVariants.{Deep}
use Rattle.c_meaning_spec.specs.Eval.{Stopped, Done, eval}
use Rattle.c_front.specs.Fronts.{IsAccepted}
use Rattle.c_compile.specs.Images.{IsImageOf}
use Rattle.trips_listing_answers.specs.Listings.{IsListing}
use Rattle.trips_listing_answers.specs.Traps.{IsTrapTold}
use Rattle.block_image.specs.Spelling.{ImageBytes}
use Rattle.block_check.specs.Faults.{IsGood}
use Rattle.grid_cycle_spec.specs.Costs.{cost_of}
use Rattle.trips_report.specs.declared.show.Show.{Show}
use Rattle.target_file.specs.Files.{TargetFile}
use Rattle.trips_draw_answers.specs.Drawn.{IsBlockDrawn}
use Rattle.trips_grid_answers.specs.Saved.{IsSavedRun}
use Rattle.trips_tools.specs.Tools.{IsAssembled, IsGoodImage, IsOneImage}
use Rattle.trips_trace_answers.specs.TraceAnswers.{IsVerdict, TellsTrace}
use Rattle.trips_answers.specs.Work.{Work}
use Rattle.trips_answers.specs.Work.{Run, Evaluate, Compile, Listing, Trap}
use Rattle.trips_answers.specs.Work.{Assemble, Disassemble, Check, Draw, Explain, Record, Verify, Save, Four}
use Rattle.trips_answers.specs.declared.forms.FileForm.{FileForm}
use Rattle.trips_answers.specs.declared.forms.FileForm.TheVariants as form
use Rattle.trips_requests.specs.declared.status.Status.{Status}
use Rattle.trips_requests.specs.declared.status.Status.TheVariants as status
use Rattle.trips_requests.specs.Results.{result_status}
use Rattle.trips_answers.specs.Request.{Request}
use Rattle.trips_answers.specs.Settings.{settings_with}
use Rattle.trips_eval_answers.specs.Evaluation.{eval_report, eval_status, outcome_of}
use Rattle.trips_requests.specs.Table.{Wrote}
use Rattle.trips_requests.specs.Texts.{too_large_text}
use Rattle.trips_answers.specs.Report.{ending_of, run_report, status_of, full_report}
use Rattle.trips_answers.specs.Asks.{nothing_shown, ended_report, AsksFor}
use Rattle.trips_answers.specs.Refused.{IsRefusedAs}
use Rattle.trips_answers.specs.Worked.{IsRunOfText}
use Rattle.trips_answers.specs.Fours.{further_of}
use Rattle.trips_answers.specs.Answer.{IsAnswer}
use Rattle.trips_answers.specs.Table.{IsAnswered}
use Rattle.trips_answers.specs.Causes.{HasLargeFile, HasLargeInput}
use Rattle.trips_answers.proofs.Complete.{complete, large_file, large_input}
use Rattle.trips_answers.proofs.Exact.{refused_exact, eval_exact}
use Rattle.trips_answers.proofs.Exact.{image_exact, text_exact, recorded_exact, verified_exact}
use Rattle.trips_answers.proofs.Exact.{compiled_exact, listed_exact, assembled_exact, disassembled_exact, checked_exact}
use Rattle.trips_answers.proofs.Exact.{explained_exact, trap_exact}
use Rattle.trips_answers.proofs.DrawnExact.{drawn_image_exact, drawn_target_exact, drawn_text_exact}
use Rattle.trips_answers.proofs.SavedExact.{saved_image_exact, saved_target_exact, saved_text_exact}
use Rattle.trips_explain_answers.specs.Explained.{IsAcceptedTold}
use Rattle.trips_answers.proofs.Compiled.{finished_told, deep_told, plain_told}
use Rattle.trips_answers.proofs.Causes.{whole_of}

module _ (held : List ℕ → Option (List ℕ)) (rose : Type 0) (old new : Option (List ℕ))
    (cut : Type 0) (q : Option Request) where
  -- the whole report was written
  row_of : (s : Status) → IsAnswered q held rose old new cut s → (cut → ⊥) → s ≢ status.Memory
      → (report : List ℕ) × IsAnswer q held rose s report × Appended old new report
  row_of s a c m = whole_of held rose old new cut q s a c m

  -- the run of an accepted text that the row of its request tells
  text_done : (s : Status) (a : IsAnswered q held rose old new cut s) (c : cut → ⊥)
      (m : s ≢ status.Memory) (most : ℕ) (show : Show) (text input : List ℕ) (program : TypedProgram)
      → (asks : AsksFor q held Run form.Source most show text input) → IsAccepted text program
      → (rose → ⊥)
      → IsRunOfText (settings_with asks.q most show) text input s (row_of s a c m).0
  text_done s a c m most show text input program asks is r =
      let row = row_of s a c m in
      text_exact (settings_with asks.q most show) text input s row.0 program
      (complete q held rose s row.0 row.1 r Run form.Source most show text input asks) is

  -- a run of a program whose meaning ends with a value, with blocks enough, ends and writes this value
  pub headline : (s : Status) → IsAnswered q held rose old new cut s → (most n : ℕ)
      (text input output : List ℕ) (value : ℤ) (steps : ℕ) (program : TypedProgram)
      → AsksFor q held Run form.Source most nothing_shown text input → IsAccepted text program
      → eval program input n ≡ Done output value steps → 16 * n + 16 ≤ most → (rose → ⊥) → (cut → ⊥)
      → s ≢ status.Memory → (s ≡ result_status value) × Appended old new (ended_report output value)
  headline s a most n text input output value steps program asks is done enough r c m =
      let row = row_of s a c m in
      let run = text_done s a c m most nothing_shown text input program asks is r in
      let told = finished_told (settings_with asks.q most nothing_shown) n text input program s row.0
      run is enough output value steps refl done in
      (told.0, subst (Appended old new) told.1 row.2)

  -- a run of a program whose meaning is stopped for its depth, with blocks enough, answers and writes the full
  -- stack
  pub deep : (s : Status) → IsAnswered q held rose old new cut s → (most n : ℕ)
      (text input output : List ℕ) (program : TypedProgram)
      → AsksFor q held Run form.Source most nothing_shown text input → IsAccepted text program
      → eval program input n ≡ Stopped Deep output → 16 * n + 16 ≤ most → (rose → ⊥) → (cut → ⊥)
      → s ≢ status.Memory → (s ≡ status.StackFull) × Appended old new (full_report output)
  deep s a most n text input output program asks is full enough r c m =
      let row = row_of s a c m in
      let run = text_done s a c m most nothing_shown text input program asks is r in
      let told = deep_told (settings_with asks.q most nothing_shown) n text input program s row.0
      run is enough output refl full in
      (told.0, subst (Appended old new) told.1 row.2)

  -- a run of a program's text writes the report of the machine's run of its image
  pub text_run : (s : Status) → IsAnswered q held rose old new cut s → (most : ℕ)
      (text input : List ℕ) (program : TypedProgram)
      → (asks : AsksFor q held Run form.Source most nothing_shown text input) → IsAccepted text program
      → (rose → ⊥) → (cut → ⊥) → s ≢ status.Memory
      → (image : Image) × IsImageOf text asks.q.placing asks.q.unroll image
      × let run = runs image.blocks (start image.bytes input) most in
      (s ≡ status_of (ending_of run.1 run.0.next) run.0)
      × Appended old new (run_report (ending_of run.1 run.0.next) run.0)
  text_run s a most text input program asks is r c m =
      let row = row_of s a c m in
      let run = text_done s a c m most nothing_shown text input program asks is r in
      let at_end = runs run.0.blocks (start run.0.bytes input) most in
      let plain = plain_told at_end run.3.0 (cost_of run.0.blocks at_end.0.trace) nothing_shown row.0 refl
      run.3.2.1 in
      (run.0, run.1, (run.3.2.0, subst (Appended old new) plain row.2))

  -- an evaluation of a program's text writes what its meaning comes to
  pub evaluation : (s : Status) → IsAnswered q held rose old new cut s → (how : FileForm)
      (steps : ℕ) (text input : List ℕ) (program : TypedProgram)
      → AsksFor q held Evaluate how steps nothing_shown text input → IsAccepted text program → (rose → ⊥)
      → (cut → ⊥) → s ≢ status.Memory → (s ≡ eval_status (outcome_of program input steps))
      × Appended old new (eval_report text (outcome_of program input steps))
  evaluation s a how steps text input program asks is r c m =
      let row = row_of s a c m in
      let done = complete q held rose s row.0 row.1 r Evaluate how steps nothing_shown text input asks in
      let told = eval_exact how (settings_with asks.q steps nothing_shown) text input s row.0 program
      done is in
      (told.0, subst (Appended old new) told.1 row.2)

  -- a run of the bytes of an image writes the report of the machine's run of it
  pub image_run : (s : Status) → IsAnswered q held rose old new cut s → (blocks : ℕ)
      (bytes input : List ℕ) (image : Image) → AsksFor q held Run form.Image blocks nothing_shown bytes input
      → ImageBytes image bytes → All IsGood image.blocks → (rose → ⊥) → (cut → ⊥)
      → s ≢ status.Memory → let run = runs image.blocks (start image.bytes input) blocks in
      (s ≡ status_of (ending_of run.1 run.0.next) run.0)
      × Appended old new (run_report (ending_of run.1 run.0.next) run.0)
  image_run s a blocks bytes input image asks spelled good r c m =
      let row = row_of s a c m in
      let done = complete q held rose s row.0 row.1 r Run form.Image blocks nothing_shown bytes input asks in
      let told = image_exact (settings_with asks.q blocks nothing_shown) bytes input s row.0 image done
      spelled good in
      let at_end = runs image.blocks (start image.bytes input) blocks in
      let plain = plain_told at_end told.0 (cost_of image.blocks at_end.0.trace) nothing_shown row.0 refl
      told.2.1 in
      (told.2.0, subst (Appended old new) plain row.2)

  -- a program's text that is compiled gives the bytes of its image
  pub compiled : (s : Status) → IsAnswered q held rose old new cut s → (how : FileForm) (most : ℕ)
      (show : Show) (text input : List ℕ) (program : TypedProgram)
      → (asks : AsksFor q held Compile how most show text input) → IsAccepted text program
      → (rose → ⊥) → (cut → ⊥) → s ≢ status.Memory
      → (image : Image) × IsImageOf text asks.q.placing asks.q.unroll image × (bytes : List ℕ)
      × ImageBytes image bytes
      × (s ≡ status.Ended) × Appended old new bytes
  compiled s a how most show text input program asks is r c m =
      let row = row_of s a c m in
      let done = complete q held rose s row.0 row.1 r Compile how most show text input asks in
      let run = compiled_exact how (settings_with asks.q most show) text input s row.0 program
      done is in
      (run.0, run.1, row.0, run.2, run.3, row.2)

  -- a program's text of which a listing is asked for gives that of its image
  pub listed : (s : Status) → IsAnswered q held rose old new cut s → (how : FileForm) (most : ℕ)
      (show : Show) (text input : List ℕ) (program : TypedProgram)
      → (asks : AsksFor q held Listing how most show text input) → IsAccepted text program
      → (rose → ⊥) → (cut → ⊥) → s ≢ status.Memory
      → (listing : List ℕ) × IsListing text asks.q.placing asks.q.unroll listing
      × (s ≡ status.Ended) × Appended old new listing
  listed s a how most show text input program asks is r c m =
      let row = row_of s a c m in
      let done = complete q held rose s row.0 row.1 r Listing how most show text input asks in
      let run = listed_exact how (settings_with asks.q most show) text input s row.0 program
      done is in
      (row.0, run.0, run.1, row.2)

  -- a target text that is assembled gives the bytes of its image
  pub assembled : (s : Status) → IsAnswered q held rose old new cut s → (how : FileForm) (most : ℕ)
      (show : Show) (text input bytes : List ℕ)
      → AsksFor q held Assemble how most show text input → IsAssembled text bytes
      → (rose → ⊥) → (cut → ⊥) → s ≢ status.Memory
      → (s ≡ status.Ended) × Appended old new bytes
  assembled s a how most show text input bytes asks one r c m =
      let row = row_of s a c m in
      let done = complete q held rose s row.0 row.1 r Assemble how most show text input asks in
      let told = assembled_exact how (settings_with asks.q most show) text input s row.0 bytes
      done one in
      (told.0, subst (Appended old new) told.1 row.2)

  -- the bytes of an image that are disassembled give its target text
  pub disassembled : (s : Status) → IsAnswered q held rose old new cut s → (how : FileForm) (most : ℕ)
      (show : Show) (bytes input text : List ℕ)
      → AsksFor q held Disassemble how most show bytes input → IsOneImage text bytes
      → (rose → ⊥) → (cut → ⊥) → s ≢ status.Memory
      → (s ≡ status.Ended) × Appended old new text
  disassembled s a how most show bytes input text asks one r c m =
      let row = row_of s a c m in
      let done = complete q held rose s row.0 row.1 r Disassemble how most show bytes input asks in
      let told = disassembled_exact how (settings_with asks.q most show) bytes input s row.0 text
      done one in
      (told.0, subst (Appended old new) told.1 row.2)

  -- the bytes of a good image that are checked give the report of it
  pub checked : (s : Status) → IsAnswered q held rose old new cut s → (how : FileForm) (most : ℕ)
      (show : Show) (bytes input report : List ℕ)
      → AsksFor q held Check how most show bytes input → IsGoodImage bytes report
      → (rose → ⊥) → (cut → ⊥) → s ≢ status.Memory
      → (s ≡ status.Ended) × Appended old new report
  checked s a how most show bytes input report asks good r c m =
      let row = row_of s a c m in
      let done = complete q held rose s row.0 row.1 r Check how most show bytes input asks in
      let told = checked_exact how (settings_with asks.q most show) bytes input s row.0 report
      done good in
      (told.0, subst (Appended old new) told.1 row.2)

  -- a program's text that is explained gives what is told of it
  pub explained : (s : Status) → IsAnswered q held rose old new cut s → (file : List ℕ) (how : FileForm) (most : ℕ)
      (show : Show) (text input report : List ℕ)
      → AsksFor q held (Explain file) how most show text input → IsAcceptedTold file text input most report
      → (rose → ⊥) → (cut → ⊥) → s ≢ status.Memory
      → (s ≡ status.Ended) × Appended old new report
  explained s a file how most show text input report asks is r c m =
      let row = row_of s a c m in
      let done = complete q held rose s row.0 row.1 r (Explain file) how most show text input asks in
      let told = explained_exact file how (settings_with asks.q most show) text input s row.0 report
      done is in
      (told.0, subst (Appended old new) told.1 row.2)

  -- one of which a trap is asked for gives that, and what is told of a trap
  pub trapped : (s : Status) → IsAnswered q held rose old new cut s → (file : List ℕ) (how : FileForm) (most : ℕ)
      (show : Show) (text input told : List ℕ)
      → AsksFor q held (Trap file) how most show text input → IsAcceptedTold file text input most told
      → (rose → ⊥) → (cut → ⊥) → s ≢ status.Memory
      → (trap : List ℕ) × IsTrapTold text input most trap × (s ≡ status.Ended) × Appended old new (told ++ trap)
  trapped s a file how most show text input told asks is r c m =
      let row = row_of s a c m in
      let done = complete q held rose s row.0 row.1 r (Trap file) how most show text input asks in
      let exact = trap_exact file how (settings_with asks.q most show) text input s row.0 told
      done is in
      (exact.1, exact.2, exact.0, subst (Appended old new) exact.3 row.2)

  -- the bytes of a good image that are recorded give the trace of its run
  pub recorded : (s : Status) → IsAnswered q held rose old new cut s → (how : FileForm) (most : ℕ)
      (show : Show) (bytes input : List ℕ) (image : Image)
      → AsksFor q held Record how most show bytes input → ImageBytes image bytes → All IsGood image.blocks
      → (rose → ⊥) → (cut → ⊥) → s ≢ status.Memory
      → Wrote old new (TellsTrace image input most s)
  recorded s a how most show bytes input image asks spelled good r c m =
      let row = row_of s a c m in
      let done = complete q held rose s row.0 row.1 r Record how most show bytes input asks in (
        row.0,
        recorded_exact how (settings_with asks.q most show) bytes input s row.0 image done spelled good,
        row.2,
      )

  -- the run of an accepted text is saved
  pub saved_text : (s : Status) → IsAnswered q held rose old new cut s → (most : ℕ) (show : Show)
      (text input : List ℕ) (program : TypedProgram)
      → (asks : AsksFor q held Save form.Source most show text input) → IsAccepted text program
      → (rose → ⊥) → (cut → ⊥) → s ≢ status.Memory
      → (image : Image) × IsImageOf text asks.q.placing asks.q.unroll image
      × Wrote old new (IsSavedRun image input most s)
  saved_text s a most show text input program asks is r c m =
      let row = row_of s a c m in
      let done = complete q held rose s row.0 row.1 r Save form.Source most show text input asks in
      let run = saved_text_exact (settings_with asks.q most show) text input s row.0 program done is in
      (run.0, run.1, (row.0, run.2, row.2))

  -- so is the run of an image
  pub saved_image : (s : Status) → IsAnswered q held rose old new cut s → (most : ℕ) (show : Show)
      (bytes input : List ℕ) (image : Image) → AsksFor q held Save form.Image most show bytes input
      → ImageBytes image bytes → All IsGood image.blocks → (rose → ⊥) → (cut → ⊥) → s ≢ status.Memory
      → Wrote old new (IsSavedRun image input most s)
  saved_image s a most show bytes input image asks spelled good r c m =
      let row = row_of s a c m in
      let done = complete q held rose s row.0 row.1 r Save form.Image most show bytes input asks in (
        row.0,
        saved_image_exact (settings_with asks.q most show) bytes input s row.0 image done spelled good,
        row.2,
      )

  -- and that of a target text's
  pub saved_target : (s : Status) → IsAnswered q held rose old new cut s → (most : ℕ) (show : Show)
      (text input : List ℕ) (image : Image) → AsksFor q held Save form.Target most show text input
      → TargetFile image text → All IsGood image.blocks → (rose → ⊥) → (cut → ⊥) → s ≢ status.Memory
      → Wrote old new (IsSavedRun image input most s)
  saved_target s a most show text input image asks spelled good r c m =
      let row = row_of s a c m in
      let done = complete q held rose s row.0 row.1 r Save form.Target most show text input asks in (
        row.0,
        saved_target_exact (settings_with asks.q most show) text input s row.0 image done spelled good,
        row.2,
      )

  -- a block of the image of an accepted text is drawn
  pub drawn_text : (s : Status) → IsAnswered q held rose old new cut s → (most : ℕ) (show : Show)
      (text input : List ℕ) (program : TypedProgram)
      → (asks : AsksFor q held Draw form.Source most show text input) → IsAccepted text program
      → (rose → ⊥) → (cut → ⊥) → s ≢ status.Memory
      → (image : Image) × IsImageOf text asks.q.placing asks.q.unroll image
      × Wrote old new (IsBlockDrawn image.blocks (most - 1) s)
  drawn_text s a most show text input program asks is r c m =
      let row = row_of s a c m in
      let done = complete q held rose s row.0 row.1 r Draw form.Source most show text input asks in
      let run = drawn_text_exact (settings_with asks.q most show) text input s row.0 program done is in
      (run.0, run.1, (row.0, run.2, row.2))

  -- so is one of an image
  pub drawn_image : (s : Status) → IsAnswered q held rose old new cut s → (most : ℕ) (show : Show)
      (bytes input : List ℕ) (image : Image) → AsksFor q held Draw form.Image most show bytes input
      → ImageBytes image bytes → All IsGood image.blocks → (rose → ⊥) → (cut → ⊥) → s ≢ status.Memory
      → Wrote old new (IsBlockDrawn image.blocks (most - 1) s)
  drawn_image s a most show bytes input image asks spelled good r c m =
      let row = row_of s a c m in
      let done = complete q held rose s row.0 row.1 r Draw form.Image most show bytes input asks in (
        row.0,
        drawn_image_exact (settings_with asks.q most show) bytes input s row.0 image done spelled good,
        row.2,
      )

  -- and one of a target text's
  pub drawn_target : (s : Status) → IsAnswered q held rose old new cut s → (most : ℕ) (show : Show)
      (text input : List ℕ) (image : Image) → AsksFor q held Draw form.Target most show text input
      → TargetFile image text → All IsGood image.blocks → (rose → ⊥) → (cut → ⊥) → s ≢ status.Memory
      → Wrote old new (IsBlockDrawn image.blocks (most - 1) s)
  drawn_target s a most show text input image asks spelled good r c m =
      let row = row_of s a c m in
      let done = complete q held rose s row.0 row.1 r Draw form.Target most show text input asks in (
        row.0,
        drawn_target_exact (settings_with asks.q most show) text input s row.0 image done spelled good,
        row.2,
      )

  -- a trace's file that is told is judged
  pub verified : (s : Status) → IsAnswered q held rose old new cut s → (how : FileForm) (most : ℕ)
      (show : Show) (bytes input trace : List ℕ) (image : Image)
      → (asks : AsksFor q held Verify how most show bytes input) → held asks.q.trace ≡ Some trace
      → ImageBytes image bytes → All IsGood image.blocks → (rose → ⊥) → (cut → ⊥) → s ≢ status.Memory
      → Wrote old new (IsVerdict image input trace s)
  verified s a how most show bytes input trace image asks told spelled good r c m =
      let row = row_of s a c m in
      let done = complete q held rose s row.0 row.1 r Verify how most show bytes input asks in (
        row.0,
        verified_exact (held asks.q.trace) (further_of held asks.q) rose how (settings_with asks.q most show) bytes
            input trace s row.0 image done r told spelled good,
        row.2,
      )

  -- a file that is refused is answered so, and the reason is written
  pub refusal : (s : Status) → IsAnswered q held rose old new cut s → (work : Work)
      (how : FileForm) (most : ℕ) (show : Show) (bytes input report : List ℕ)
      → AsksFor q held work how most show bytes input → (work ≡ Four → ⊥) → IsRefusedAs work how bytes report
      → (rose → ⊥) → (cut → ⊥) → s ≢ status.Memory → (s ≡ status.Refused) × Appended old new report
  refusal s a work how most show bytes input report asks n bad r c m =
      let row = row_of s a c m in
      let done = complete q held rose s row.0 row.1 r work how most show bytes input asks in
      let told = refused_exact (held asks.q.trace) (further_of held asks.q) rose work how
      (settings_with asks.q most show) bytes input s row.0 report n done bad in
      (told.0, subst (Appended old new) told.1 row.2)

  -- a file that is too large is refused as such
  pub too_large_file : (s : Status) → IsAnswered q held rose old new cut s → (x : Request)
      → q ≡ Some x → HasLargeFile x held → (rose → ⊥) → (cut → ⊥) → s ≢ status.Memory
      → (s ≡ status.Refused) × Appended old new too_large_text
  too_large_file s a x e large r c m =
      let row = row_of s a c m in
      let told = large_file q held rose s row.0 row.1 r x e large in
      (told.0, subst (Appended old new) told.1 row.2)

  -- an input that is too large is refused as such
  pub too_large_input : (s : Status) → IsAnswered q held rose old new cut s → (x : Request)
      → q ≡ Some x → HasLargeInput x held → (rose → ⊥) → (cut → ⊥) → s ≢ status.Memory
      → (s ≡ status.Refused) × Appended old new too_large_text
  too_large_input s a x e large r c m =
      let row = row_of s a c m in
      let told = large_input q held rose s row.0 row.1 r x e large in
      (told.0, subst (Appended old new) told.1 row.2)
