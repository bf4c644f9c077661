-- What is written of a run, and what is shown behind it.
use Rattle.std.proofs.Common.{◌≡◌, ◌≢◌, ℕ, ℤ, ◌+◌, ◌*◌, ◌≤◌, List, [], Option, All, subst}
use Rattle.trips_outside.specs.Outside.{Appended}
use Rattle.trips_isa.specs.declared.block.Block.{Block}
use Rattle.trips_isa.specs.declared.block.Image.{Image}
use Rattle.trips_isa.specs.declared.run.Ending.TheVariants as ending
use Rattle.trips_isa.specs.declared.run.Stepped.TheVariants as stepped
use Rattle.trips_isa.specs.Machine.{State, runs, start}
use Rattle.c_tree.specs.declared.typed.TypedProgram.{TypedProgram}
use Rattle.c_meaning_spec.specs.declared.signal.Ending.TheVariants.{Deep}
use Rattle.c_meaning_spec.specs.Eval.{Stopped, Done, eval}
use Rattle.c_front.specs.Fronts.{IsAccepted}
use Rattle.c_compile.specs.Images.{IsImageOf}
use Rattle.grid_meaning.specs.Meant.{EndsAsMeant}
use Rattle.block_image.specs.Spelling.{ImageBytes}
use Rattle.block_check.specs.Faults.{IsGood}
use Rattle.target_file.specs.Files.{TargetFile}
use Rattle.trips_report.specs.declared.show.Show.{Show}
use Rattle.trips_answers.specs.Work.{Run}
use Rattle.trips_answers.specs.declared.forms.FileForm.TheVariants as form
use Rattle.trips_answers.specs.declared.forms.Settings.{Settings}
use Rattle.trips_requests.specs.declared.status.Status.{Status}
use Rattle.trips_requests.specs.declared.status.Status.TheVariants as status
use Rattle.trips_requests.specs.Results.{result_status}
use Rattle.trips_answers.specs.Request.{Request}
use Rattle.trips_answers.specs.Settings.{settings_with}
use Rattle.trips_answers.specs.Report.{ending_of, run_report, status_of, full_report}
use Rattle.machine_save.specs.Spelling.{SaveBytes}
use Rattle.trips_grid_answers.specs.Runs.{IsRunFrom}
use Rattle.trips_answers.specs.Worked.{IsRunOfText}
use Rattle.trips_answers.specs.Table.{IsAnswered, IsReported, IsReportedFrom}
use Rattle.trips_answers.specs.Asks.{AsksFor, ended_report}
use Rattle.trips_answers.proofs.Compiled.{finished_shown, finished_grid, deep_shown}
use Rattle.trips_answers.proofs.Complete.{complete}
use Rattle.trips_answers.proofs.Exact.{image_exact, text_exact, target_exact}
use Rattle.trips_answers.proofs.SavedExact.{resumed_exact}
use Rattle.trips_answers.proofs.Causes.{whole_of}

-- a run that was made, and what was written of it
ran : (blocks : List Block) (t : State) (settings : Settings) (s : Status) (report : List ℕ)
    (old new : Option (List ℕ)) → IsRunFrom blocks t settings.conditions settings.most settings.show s report
    → Appended old new report → let run = runs blocks t settings.most in
    IsReportedFrom blocks t settings (status_of (ending_of run.1 run.0.next) run.0)
    (run_report (ending_of run.1 run.0.next) run.0) s old new
ran blocks t settings s report old new run w =
    (run.0, run.1, run.2.0, subst (Appended old new) run.2.1 w)

module _ (held : List ℕ → Option (List ℕ)) (rose : Type 0) (old new : Option (List ℕ))
    (cut : Type 0) (q : Option Request) (s : Status) (a : IsAnswered q held rose old new cut s)
    (most : ℕ) (show : Show) (bytes input : List ℕ) where
  -- the run of an accepted text that the row of its request tells
  text_done : (c : cut → ⊥) (m : s ≢ status.Memory) (program : TypedProgram)
      → (asks : AsksFor q held Run form.Source most show bytes input) → IsAccepted bytes program
      → (rose → ⊥) → IsRunOfText (settings_with asks.q most show) bytes input s
      (whole_of held rose old new cut q s a c m).0
  text_done c m program asks is r =
      let row = whole_of held rose old new cut q s a c m in
      text_exact (settings_with asks.q most show) bytes input s row.0 program
      (complete q held rose s row.0 row.1 r Run form.Source most show bytes input asks) is

  -- a run of a program's text reports the machine's run of its image, and behind it what is to be shown
  pub text_run : (program : TypedProgram)
      → (asks : AsksFor q held Run form.Source most show bytes input)
      → IsAccepted bytes program → (rose → ⊥) → (cut → ⊥) → s ≢ status.Memory
      → (image : Image) × IsImageOf bytes asks.q.placing asks.q.unroll image
      × let run = runs image.blocks (start image.bytes input) most in
      IsReported image input (settings_with asks.q most show) (status_of (ending_of run.1 run.0.next) run.0)
      (run_report (ending_of run.1 run.0.next) run.0) s old new
  text_run program asks is r c m =
      let row = whole_of held rose old new cut q s a c m in
      let run = text_done c m program asks is r in (
        run.0,
        run.1,
        ran run.0.blocks (start run.0.bytes input) (settings_with asks.q most show) s row.0 old new run.3 row.2,
      )

  -- a run of the bytes of an image reports the machine's run of it, and behind it what is to be shown
  pub image_run : (image : Image)
      → (asks : AsksFor q held Run form.Image most show bytes input)
      → ImageBytes image bytes → All IsGood image.blocks → (rose → ⊥) → (cut → ⊥) → s ≢ status.Memory
      → let run = runs image.blocks (start image.bytes input) most in
      IsReported image input (settings_with asks.q most show) (status_of (ending_of run.1 run.0.next) run.0)
      (run_report (ending_of run.1 run.0.next) run.0) s old new
  image_run image asks spelled good r c m =
      let row = whole_of held rose old new cut q s a c m in
      let done = complete q held rose s row.0 row.1 r Run form.Image most show bytes input asks in
      ran image.blocks (start image.bytes input) (settings_with asks.q most show) s row.0 old new
      (image_exact (settings_with asks.q most show) bytes input s row.0 image done spelled good) row.2

  -- a run of a target text reports the machine's run of its image, and behind it what is to be shown
  pub target_run : (image : Image)
      → (asks : AsksFor q held Run form.Target most show bytes input)
      → TargetFile image bytes → All IsGood image.blocks → (rose → ⊥) → (cut → ⊥) → s ≢ status.Memory
      → let run = runs image.blocks (start image.bytes input) most in
      IsReported image input (settings_with asks.q most show) (status_of (ending_of run.1 run.0.next) run.0)
      (run_report (ending_of run.1 run.0.next) run.0) s old new
  target_run image asks spelled good r c m =
      let row = whole_of held rose old new cut q s a c m in
      let done = complete q held rose s row.0 row.1 r Run form.Target most show bytes input asks in
      ran image.blocks (start image.bytes input) (settings_with asks.q most show) s row.0 old new
      (target_exact (settings_with asks.q most show) bytes input s row.0 image done spelled good) row.2

  -- a run that goes on reports the machine's run from the state that the bytes save, and behind it what is to be
  -- shown
  pub resumed : (image : Image) (t : State)
      → (asks : AsksFor q held Run form.Saved most show bytes input)
      → SaveBytes image t bytes → (rose → ⊥) → (cut → ⊥) → s ≢ status.Memory
      → let run = runs image.blocks (record t { trace = [] }) most in
      IsReportedFrom image.blocks (record t { trace = [] }) (settings_with asks.q most show)
      (status_of (ending_of run.1 run.0.next) run.0) (run_report (ending_of run.1 run.0.next) run.0) s old new
  resumed image t asks saves r c m =
      let row = whole_of held rose old new cut q s a c m in
      let done = complete q held rose s row.0 row.1 r Run form.Saved most show bytes input asks in
      ran image.blocks (record t { trace = [] }) (settings_with asks.q most show) s row.0 old new
      (resumed_exact (settings_with asks.q most show) bytes input s row.0 image t done saves) row.2

  -- a run of a program whose meaning ends with a value, with blocks enough, reports this value, and behind it
  -- what is to be shown of the grid's run, which ends as it is meant to
  pub headline : (n : ℕ) (output : List ℕ) (value : ℤ) (steps : ℕ) (program : TypedProgram)
      → (asks : AsksFor q held Run form.Source most show bytes input)
      → IsAccepted bytes program → eval program input n ≡ Done output value steps → 16 * n + 16 ≤ most
      → (rose → ⊥) → (cut → ⊥) → s ≢ status.Memory
      → (image : Image) × IsImageOf bytes asks.q.placing asks.q.unroll image
      × ((runs image.blocks (start image.bytes input) most).1 ≡ stepped.Ended)
      × (told : IsReported image input (settings_with asks.q most show) (result_status value)
      (ended_report output value) s old new) × EndsAsMeant image input most [] output value ending.Ended told.1.grid
  headline n output value steps program asks is done enough r c m =
      let row = whole_of held rose old new cut q s a c m in
      let run = text_done c m program asks is r in
      let told = finished_shown (settings_with asks.q most show) n bytes input program s row.0 run is
      enough output value steps done in (
        run.0,
        run.1,
        told.1,
        (run.3.0, run.3.1, told.0, subst (Appended old new) told.2 row.2),
        finished_grid (settings_with asks.q most show) n bytes input program s row.0 run is enough output value steps
            done,
      )

  -- a run of a program whose meaning is stopped for its depth, with blocks enough, reports the full stack, and
  -- behind it what is to be shown
  pub deep : (n : ℕ) (output : List ℕ) (program : TypedProgram)
      → (asks : AsksFor q held Run form.Source most show bytes input)
      → IsAccepted bytes program → eval program input n ≡ Stopped Deep output → 16 * n + 16 ≤ most
      → (rose → ⊥) → (cut → ⊥) → s ≢ status.Memory
      → (image : Image) × IsImageOf bytes asks.q.placing asks.q.unroll image
      × ((runs image.blocks (start image.bytes input) most).1 ≡ stepped.StackFull)
      × IsReported image input (settings_with asks.q most show) status.StackFull (full_report output) s old
      new
  deep n output program asks is full enough r c m =
      let row = whole_of held rose old new cut q s a c m in
      let run = text_done c m program asks is r in
      let told = deep_shown (settings_with asks.q most show) n bytes input program s row.0 run is
      enough output full in
      (run.0, run.1, told.1, (run.3.0, run.3.1, told.0, subst (Appended old new) told.2 row.2))
