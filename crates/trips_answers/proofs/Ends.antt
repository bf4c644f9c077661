-- How work that was asked for ended, from the row of its request.
use Rattle.std.proofs.Common.{◌≡◌, ℕ, ◌-◌, true, false, List, [], ◌∷◌, Option, None, Some}
use Rattle.std.proofs.Common.{inl, inr, refl, sym, ◌∙◌, ap, subst, ◌⊎◌, Bool, slice_index, cond}
use Rattle.std.specs.Prelude.{◌==◌}
use Rattle.trips_requests.specs.Results.{aborted_word}
use Rattle.trips_outside.specs.Outside.{Holds}
use Rattle.trips_isa.specs.declared.block.Block.{Block}
use Rattle.trips_isa.specs.declared.block.Image.{Image}
use Rattle.trips_isa.specs.declared.run.Ending.{Ending}
use Rattle.trips_isa.specs.declared.run.Ending.TheVariants as ending
use Rattle.trips_isa.specs.Machine.{State, runs, start}
use Rattle.trips_answers.specs.Work.{Work}
use Rattle.trips_answers.specs.Work.{Run, Evaluate, Compile, Listing, Trap}
use Rattle.trips_answers.specs.Work.{Assemble, Disassemble, Check, Draw, Explain, Record, Verify, Save, Four}
use Rattle.trips_answers.specs.declared.forms.FileForm.{FileForm}
use Rattle.trips_answers.specs.declared.forms.FileForm.TheVariants as form
use Rattle.trips_answers.specs.declared.forms.Settings.{Settings}
use Rattle.trips_requests.specs.declared.loading.Loaded.{Loaded}
use Rattle.trips_requests.specs.declared.loading.Loaded.TheVariants.{Fault, TooLarge, Bytes}
use Rattle.trips_requests.specs.declared.status.Status.{Status}
use Rattle.trips_requests.specs.declared.status.Status.TheVariants as status
use Rattle.trips_answers.specs.Request.{Request, origin_held}
use Rattle.trips_answers.specs.Settings.{settings_of}
use Rattle.trips_answers.specs.Read.{IsInputRead, HoldsInput}
use Rattle.trips_answers.specs.Asks.{limit_of}
use Rattle.trips_requests.specs.Table.{IsRead, AfterReading}
use Rattle.trips_report.specs.Endings.{status_by}
use Rattle.trips_answers.specs.Report.{ending_of}
use Rattle.trips_draw_answers.specs.Drawn.{IsBlockDrawn}
use Rattle.trips_grid_answers.specs.Runs.{IsRunFrom}
use Rattle.trips_grid_answers.specs.Saved.{IsSavedRun}
use Rattle.trips_answers.specs.Worked.{IsWorked, IsDone, IsDoneBehind}
use Rattle.trips_answers.specs.Traced.{IsTraceFault, IsTraceRefused}
use Rattle.trips_answers.specs.Fours.{IsFurtherFault, IsLargeAmong, IsRefusedAmong, further_of}
use Rattle.trips_four_answers.specs.Report.{first_status, own_ending, own_run, status_or}
use Rattle.trips_requests.specs.Texts.{IsFixed, read_fault_text, too_large_text}
use Rattle.trips_answers.proofs.Traced.{part}
use Rattle.trips_answers.specs.Answer.{IsAnswerBehind, IsAnswer}
use Rattle.trips_answers.specs.Table.{EndsAs, EvalEnds}
use Rattle.trips_answers.proofs.Rows.{input_held, is_told}

-- a status that tells no end is none that does
not_told : (s other : Status) → s ≡ other → is_told other ≡ false → is_told s ≡ true → ⊥
not_told s other e none told =
    let both : true ≡ false = sym told ∙ ap is_told e ∙ none in absurd (cc)

module _ (q : Request) (held : List ℕ → Option (List ℕ)) (rose : Type 0) (s : Status)
    (report : List ℕ) (told : is_told s ≡ true) where
  -- the work has ended so, with this report
  abbrev IsEnd : Type 0
  IsEnd = (e : EndsAs held q s) × (e.report ≡ report)

  done_ends : (bytes input : List ℕ) → Holds (origin_held held q.origin) bytes
      → HoldsInput q.input held input → IsDone q.work q.form (settings_of q) bytes input s report
      → IsEnd
  unfolding is_told
  done_ends bytes input h i (inl out) = absurd (not_told s status.Refused out.2.0 refl told)
  done_ends bytes input h i (inr run) = (
    record {
      bytes = bytes;
      input = input;
      report = report;
      holds = h;
      holds_input = i;
      worked = run;
    },
    refl,
  )

  -- a fault of the trace's file is no end
  traced_ends : (bytes input : List ℕ) → IsTraceFault (held q.trace) rose q.work bytes input s report → IsEnd
  unfolding is_told
  traced_ends bytes input f = go f.1
    where
      go : (rose × IsFixed status.ReadFault read_fault_text s report)
          ⊎ ((trace : List ℕ) × (text : List ℕ) × Holds (held q.trace) trace × IsTraceRefused bytes input trace text
          × IsFixed status.Refused text s report) → IsEnd
      go (inl u) = absurd (not_told s status.ReadFault u.1.0 refl told)
      go (inr t) = absurd (not_told s status.Refused t.4.0 refl told)

  -- nor is one of a further file
  further_ends : IsFurtherFault (further_of held q) rose q.work s report → IsEnd
  unfolding is_told
  further_ends f = go f.1
    where
      go : (rose × IsFixed status.ReadFault read_fault_text s report)
          ⊎ ((IsLargeAmong (further_of held q) × IsFixed status.Refused too_large_text s report)
          ⊎ ((text : List ℕ) × IsRefusedAmong 1 (further_of held q) text × IsFixed status.Refused text s report))
          → IsEnd
      go (inl u) = absurd (not_told s status.ReadFault u.1.0 refl told)
      go (inr (inl l)) = absurd (not_told s status.Refused l.1.0 refl told)
      go (inr (inr t)) = absurd (not_told s status.Refused t.2.0 refl told)

  input_ends : (bytes : List ℕ) (loaded : Loaded) → Holds (origin_held held q.origin) bytes
      → IsInputRead q.input held rose loaded
      → AfterReading loaded
      (λ input. IsDoneBehind (held q.trace) (further_of held q) rose q.work q.form (settings_of q) bytes input s
      report) s report
      → IsEnd
  unfolding is_told
  input_ends bytes Fault h i a = absurd (not_told s status.ReadFault a.0 refl told)
  input_ends bytes TooLarge h i a = absurd (not_told s status.Refused a.0 refl told)
  input_ends bytes (Bytes input) h i a =
      elim (part (held q.trace) (further_of held q) rose q.work q.form (settings_of q) bytes input s report a) [
        | inl d ↦ done_ends bytes input h (input_held q.input held rose input i) d
        | inr (inl f) ↦ traced_ends bytes input f
        | inr (inr f) ↦ further_ends f
      ]

  asked_ends : (loaded : Loaded) → IsRead (origin_held held q.origin) rose (limit_of q.form) loaded
      → AfterReading loaded (λ bytes. IsAnswerBehind q held rose bytes s report) s report
      → IsEnd
  unfolding is_told
  asked_ends Fault h a = absurd (not_told s status.ReadFault a.0 refl told)
  asked_ends TooLarge h a = absurd (not_told s status.Refused a.0 refl told)
  asked_ends (Bytes bytes) h a = input_ends bytes a.0 h.0 a.1 a.2

-- work whose end is told has ended as the definitions have it, with the report of its row
pub ends_row_with : (request : Option Request) (held : List ℕ → Option (List ℕ)) (rose : Type 0)
    (s : Status) (report : List ℕ) (q : Request) → IsAnswer request held rose s report
    → request ≡ Some q → is_told s ≡ true → (e : EndsAs held q s) × (e.report ≡ report)
ends_row_with request held rose s report q a e told =
    let row = subst (λ (x : Option Request). IsAnswer x held rose s report) e a in
    asked_ends q held rose s report told row.0 row.1 row.2

-- work that was told of a request ended with the status that is answered
pub ends_row : (request : Option Request) (held : List ℕ → Option (List ℕ)) (rose : Type 0)
    (s : Status) (report : List ℕ) (q : Request) → IsAnswer request held rose s report
    → request ≡ Some q → is_told s ≡ true → EndsAs held q s
ends_row request held rose s report q a e told = (ends_row_with request held rose s report q a e told).0

-- and it is the work of a request
pub some_asked : (request : Option Request) (held : List ℕ → Option (List ℕ)) (rose : Type 0)
    (s : Status) (report : List ℕ) → IsAnswer request held rose s report → is_told s ≡ true
    → (q : Request) × (request ≡ Some q)
unfolding is_told
some_asked None held rose s report a told = absurd (not_told s status.Usage a.0 refl told)
some_asked (Some q) held rose s report a told = (q, refl)

-- no end of a run is undefined
ended_is_defined : (b : Bool) → cond b status.Aborted status.Ended ≡ status.Undefined → ⊥
ended_is_defined true e = cc
ended_is_defined false e = cc

end_is_defined : (x : Ending) (w : ℕ) → status_by x w ≡ status.Undefined → ⊥
end_is_defined ending.Ended w e = ended_is_defined (w == aborted_word) e
end_is_defined ending.StackFull w e = cc
end_is_defined ending.Budget w e = cc
end_is_defined (ending.Trap block cause) w e = cc

run_is_defined : (blocks : List Block) (t : State) (settings : Settings) (s : Status) (report : List ℕ)
    → IsRunFrom blocks t settings.conditions settings.most settings.show s report → s ≡ status.Undefined → ⊥
run_is_defined blocks t settings s report run e =
    end_is_defined (ending_of (runs blocks t settings.most).1 (runs blocks t settings.most).0.next)
    (slice_index (runs blocks t settings.most).0.registers 3) (sym run.2.0 ∙ e)

-- nor is the end of four
ended_first : (b : Bool) (later : Status) → (later ≡ status.Undefined → ⊥)
    → status_or (cond b status.Aborted status.Ended) later ≡ status.Undefined → ⊥
ended_first true later n e = cc
ended_first false later n e = n e

first_is_defined : (x : Ending) (w : ℕ) (later : Status) → (later ≡ status.Undefined → ⊥)
    → status_or (status_by x w) later ≡ status.Undefined → ⊥
first_is_defined ending.Ended w later n e = ended_first (w == aborted_word) later n e
first_is_defined ending.StackFull w later n e = cc
first_is_defined ending.Budget w later n e = cc
first_is_defined (ending.Trap block cause) w later n e = cc

four_are_defined : (input : List ℕ) (most : ℕ) (images : List Image)
    → first_status input most images ≡ status.Undefined → ⊥
four_are_defined input most [] e = cc
four_are_defined input most (image ∷ images) e =
    first_is_defined (own_ending input most image) (slice_index (own_run input most image).0.registers 3)
    (first_status input most images)
    (four_are_defined input most images) e

-- nor is a save, or a run that is over
save_is_defined : (image : Image) (input : List ℕ) (at : ℕ) (s : Status) (report : List ℕ)
    → IsSavedRun image input at s report → s ≡ status.Undefined → ⊥
save_is_defined image input at s report (inl saved) e =
    let both : status.Ended ≡ status.Undefined = sym saved.2 ∙ e in absurd (cc)
save_is_defined image input at s report (inr over) e =
    let both : status.Refused ≡ status.Undefined = sym over.1.0 ∙ e in absurd (cc)

-- nor is the drawing of a block, or that there is none
draw_is_defined : (blocks : List Block) (k : ℕ) (s : Status) (report : List ℕ) → IsBlockDrawn blocks k s report
    → s ≡ status.Undefined → ⊥
draw_is_defined blocks k s report (inl drawn) e =
    let both : status.Ended ≡ status.Undefined = sym drawn.1 ∙ e in absurd (cc)
draw_is_defined blocks k s report (inr none) e =
    let both : status.Refused ≡ status.Undefined = sym none.1.0 ∙ e in absurd (cc)

-- nor is what is made of a file
not_made : (s : Status) → s ≡ status.Ended → s ≡ status.Undefined → ⊥
not_made s made e = let both : status.Ended ≡ status.Undefined = sym made ∙ e in absurd (cc)

-- only an evaluation is undefined
pub is_evaluation : (work : Work) (how : FileForm) (settings : Settings) (bytes input : List ℕ)
    (s : Status) (report : List ℕ) → IsWorked work how settings bytes input s report
    → s ≡ status.Undefined → work ≡ Evaluate
is_evaluation Evaluate how settings bytes input s report run e = refl
is_evaluation Run form.Source settings bytes input s report run e =
    absurd (run_is_defined run.0.blocks (start run.0.bytes input) settings s report run.3 e)
is_evaluation Run form.Target settings bytes input s report run e =
    absurd (run_is_defined run.0.blocks (start run.0.bytes input) settings s report run.3 e)
is_evaluation Run form.Image settings bytes input s report run e =
    absurd (run_is_defined run.0.blocks (start run.0.bytes input) settings s report run.3 e)
is_evaluation Run form.Saved settings bytes input s report run e =
    absurd (run_is_defined run.0.blocks run.1 settings s report run.4 e)
is_evaluation Save form.Source settings bytes input s report run e =
    absurd (save_is_defined run.0 input settings.most s report run.2 e)
is_evaluation Save form.Target settings bytes input s report run e =
    absurd (save_is_defined run.0 input settings.most s report run.3 e)
is_evaluation Save form.Image settings bytes input s report run e =
    absurd (save_is_defined run.0 input settings.most s report run.3 e)
is_evaluation Save form.Saved settings bytes input s report run e = absurd run
is_evaluation Four how settings bytes input s report run e =
    absurd (four_are_defined input settings.most run.1 (sym run.3.told.0 ∙ e))
is_evaluation Draw how settings bytes input s report run e =
    absurd (draw_is_defined run.0.blocks (settings.most - 1) s report run.2 e)
is_evaluation Compile how settings bytes input s report run e = absurd (not_made s run.3 e)
is_evaluation Listing how settings bytes input s report run e = absurd (not_made s run.1 e)
is_evaluation Assemble how settings bytes input s report run e = absurd (not_made s run.1 e)
is_evaluation Disassemble how settings bytes input s report run e = absurd (not_made s run.1 e)
is_evaluation Check how settings bytes input s report run e = absurd (not_made s run.1 e)
is_evaluation (Explain file) how settings bytes input s report run e = absurd (not_made s run.1 e)
is_evaluation (Trap file) how settings bytes input s report run e = absurd (not_made s run.1 e)
is_evaluation Verify how settings bytes input s report run e = absurd (not_made s run.1.5.0 e)
is_evaluation Record how settings bytes input s report run e = absurd (end_is_defined run.2.0 run.2.1 (sym run.2.3 ∙ e))

-- where what C leaves undefined is answered, an evaluation ended so
pub undefined_row : (request : Option Request) (held : List ℕ → Option (List ℕ)) (rose : Type 0)
    (s : Status) (report : List ℕ) → IsAnswer request held rose s report → s ≡ status.Undefined
    → EvalEnds request held s
unfolding is_told
undefined_row None held rose s report a e =
    let is : s ≡ status.Usage = a.0 in absurd (cc)
undefined_row (Some q) held rose s report a e =
    let ends = ends_row (Some q) held rose s report q a refl (ap is_told e) in record {
      q = q;
      asked = refl;
      is_work = is_evaluation q.work q.form (settings_of q) ends.bytes ends.input s ends.report ends.worked e;
      ends = ends;
    }
