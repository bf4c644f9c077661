-- What the run of a compiled program is told to come to.
use Rattle.std.proofs.Common.{◌≡◌, ℕ, ℤ, ◌+◌, ◌*◌, ◌<◌, ◌≤◌, List, [], ◌++◌, slice_index, refl, sym, ap, ◌∙◌, subst}
use Rattle.std.proofs.Common.{length, Option, Some, Bool, true, false, arith}
use Rattle.std.specs.Prelude.{codes, cond, ◌==◌}
use Rattle.std.specs.Int.{w64, cast_unsigned}
use Rattle.std.specs.Fmt.{signed_decimal}
use Rattle.trips_outside.specs.Outside.{Holds}
use Rattle.trips_isa.specs.declared.block.Image.{Image}
use Rattle.trips_isa.specs.declared.run.Counts.{Counts}
use Rattle.trips_isa.specs.declared.run.Ending.{Ending}
use Rattle.trips_isa.specs.declared.run.Ending.TheVariants as ending
use Rattle.trips_isa.specs.declared.run.Stepped.{Stepped}
use Rattle.trips_isa.specs.declared.run.Stepped.TheVariants as stepped
use Rattle.trips_isa.specs.Machine.{State, start}
use Rattle.c_tree.specs.declared.typed.TypedProgram.{TypedProgram}
use Rattle.c_meaning_spec.specs.declared.signal.Ending.TheVariants.{More, Undefined, Deep}
use Rattle.c_meaning_spec.specs.Eval.{Outcome, Stopped, Done, eval}
use Rattle.c_front.specs.Fronts.{IsAccepted}
use Rattle.c_front.proofs.Once.{accepted_once}
use Rattle.c_compile_laws.specs.Runs.{run_of, HasEnded, IsFull, AnswersAs}
use Rattle.c_compile.specs.Images.{IsImageOf, MeansText}
use Rattle.c_compile.proofs.Images.{images_mean}
use Rattle.grid_cycle_spec.specs.Grid.{Grid}
use Rattle.grid_machine.specs.Answered.{ComesTo}
use Rattle.grid_cycle.specs.Conditions.{IsRan}
use Rattle.grid_cycle.specs.declared.weather.AnyWeather.{AnyWeather}
use Rattle.grid_cycle.specs.Traps.{is_trap}
use Rattle.grid_meaning.specs.Meant.{AgreesWith, EndsAsMeant}
use Rattle.grid_meaning.proofs.GridRuns as runs
use Rattle.grid_meaning.proofs.TextRuns as grid
use Rattle.grid_meaning.proofs.TextRuns.{settled}
use Rattle.trips_answers.specs.declared.forms.Settings.{Settings}
use Rattle.trips_requests.specs.declared.status.Status.{Status}
use Rattle.trips_requests.specs.declared.status.Status.TheVariants as status
use Rattle.trips_answers.specs.Request.{Request, origin_held}
use Rattle.trips_answers.specs.Settings.{settings_of}
use Rattle.grid_place.specs.declared.placed.Placing.{Placing}
use Rattle.trips_answers.specs.Read.{HoldsInput}
use Rattle.grid_cycle_spec.specs.Costs.{cost_of}
use Rattle.trips_report.specs.declared.measured.Measured.{Measured}
use Rattle.trips_report.specs.declared.show.Show.{Show}
use Rattle.trips_requests.specs.Results.{aborted_word, end_line, end_status, result_line, result_status}
use Rattle.trips_requests.specs.Texts.{output_and}
use Rattle.trips_report.specs.Runs.{signed}
use Rattle.trips_report.proofs.ListedTexts.{shows_nothing}
use Rattle.trips_answers.specs.Report.{ending_of, run_report, shown_report, shown_behind, status_of, full_report}
use Rattle.trips_answers.specs.Asks.{nothing_shown, ended_report}
use Rattle.trips_answers.specs.Worked.{IsRunOfText}
use Rattle.trips_outside.specs.Outside.{Appended}
use Rattle.trips_answers.specs.Evaluated.{SaysOf, HasNotEnded, RunEndsAs, TellsResult}
use Rattle.trips_answers.specs.Ended.{ResultMeans}
use Rattle.trips_answers.proofs.Results.{number_word, result_said, signed_number}

-- an image of a text has a block
pub has_blocks : (text : List ℕ) (p : Placing) (turns : ℕ) (i : Image) → IsImageOf text p turns i
    → 0 < length i.blocks
has_blocks text p turns i is = let good = (images_mean text p turns i is).bounds.good in omega (arith, good.fits.some)

-- REPORTS

-- where nothing is shown, the report stands alone
nothing_behind : (report : List ℕ) (s : State) (measured : Measured) (cost : ℕ) (show : Show)
    → show ≡ nothing_shown → shown_behind report s measured cost show ≡ report
nothing_behind report s measured cost show none =
    ap (λ (v : Show). shown_behind report s measured cost v) none ∙ shows_nothing report s measured cost

-- and a run's report is the plain one
pub plain_told : (r : State × Stepped) (measured : Measured) (cost : ℕ) (show : Show) (report : List ℕ)
    → show ≡ nothing_shown → report ≡ shown_report (ending_of r.1 r.0.next) r.0 measured cost show
    → report ≡ run_report (ending_of r.1 r.0.next) r.0
plain_told r measured cost show report none told =
    told ∙ nothing_behind (run_report (ending_of r.1 r.0.next) r.0) r.0 measured cost show none

-- the report of a run that has ended tells its output and value
pub ended : (r : State × Stepped) (output : List ℕ) (value : ℤ) → HasEnded output value r
    → run_report (ending_of r.1 r.0.next) r.0 ≡ ended_report output value
ended r output value h =
    let e : ending_of r.1 r.0.next ≡ ending.Ended = ap (λ (a : Stepped). ending_of a r.0.next) h.answer in
    let w : ℕ = slice_index r.0.registers 3 in
    let digits = signed_number w h.word.below ∙ ap signed_decimal h.is in
    ap (λ (x : Ending). run_report x r.0) e
    ∙ ap (λ (t : List ℕ). output_and r.0.output (end_line w t)) digits
    ∙ ap (λ (v : ℕ). output_and r.0.output (end_line v (signed_decimal value)))
    (number_word w value h.word.below h.is)
    ∙ ap (λ (o : List ℕ). output_and o (result_line value)) h.output

-- and its status
pub ended_so : (r : State × Stepped) (output : List ℕ) (value : ℤ) → HasEnded output value r
    → status_of (ending_of r.1 r.0.next) r.0 ≡ result_status value
ended_so r output value h = ap (λ (a : Stepped). status_of (ending_of a r.0.next) r.0) h.answer
    ∙ ap end_status (number_word (slice_index r.0.registers 3) value h.word.below h.is)

-- the report of a run whose stack is full tells the output so far
pub full : (r : State × Stepped) (output : List ℕ) → IsFull output r
    → run_report (ending_of r.1 r.0.next) r.0 ≡ full_report output
full r output h =
    let e : ending_of r.1 r.0.next ≡ ending.StackFull = ap (λ (a : Stepped). ending_of a r.0.next) h.answer in
    ap (λ (x : Ending). run_report x r.0) e
    ∙ ap (λ (o : List ℕ). output_and o (codes "stack full")) h.output

-- an end is no spent budget
not_spent : (w : ℕ) → status.Budget ≡ end_status w → ⊥
not_spent w = go (w == aborted_word)
  where
    go : (b : Bool) → status.Budget ≡ cond b status.Aborted status.Ended → ⊥
    go true e = absurd (cc)
    go false e = absurd (cc)

module _ (settings : Settings) (n : ℕ) (text input : List ℕ) (program : TypedProgram) (s : Status)
    (report : List ℕ) (run : IsRunOfText settings text input s report)
    (accepted : IsAccepted text program) (enough : 16 * n + 16 ≤ settings.most) where
  means : MeansText text settings.placing settings.unroll run.0
  means = images_mean text settings.placing settings.unroll run.0 run.1

  same : means.program ≡ program
  same = accepted_once text means.program program means.accepted accepted

  -- where the evaluation is done within n steps
  finished_run : (output : List ℕ) (value : ℤ) (steps : ℕ)
      → eval program input n ≡ Done output value steps → HasEnded output value (run_of run.0 input settings.most)
  finished_run output value steps done = grid.done text input settings.placing settings.unroll run.0 program
      settings.most n accepted means run.2 output value steps done enough

  finished_status : (output : List ℕ) (value : ℤ) (steps : ℕ)
      → eval program input n ≡ Done output value steps → s ≡ result_status value
  finished_status output value steps done = run.3.2.0
      ∙ ended_so (run_of run.0 input settings.most) output value (finished_run output value steps done)

  -- where the program's meaning ends with a value, its run ends, and the report tells this value, and behind it
  -- what is to be shown
  pub finished_shown : (output : List ℕ) (value : ℤ) (steps : ℕ)
      → eval program input n ≡ Done output value steps
      → (s ≡ result_status value) × ((run_of run.0 input settings.most).1 ≡ stepped.Ended)
      × (report ≡ shown_behind (ended_report output value) (run_of run.0 input settings.most).0 run.3.0
      (cost_of run.0.blocks (run_of run.0 input settings.most).0.trace) settings.show)
  finished_shown output value steps done = (
    finished_status output value steps done,
    (finished_run output value steps done).answer,
    run.3.2.1 ∙ ap (λ (t : List ℕ). shown_behind t (run_of run.0 input settings.most).0 run.3.0
        (cost_of run.0.blocks (run_of run.0 input settings.most).0.trace) settings.show)
        (ended (run_of run.0 input settings.most) output value (finished_run output value steps done)),
  )

  -- the grid that is told of has come to what the evaluation is
  pub finished_grid : (output : List ℕ) (value : ℤ) (steps : ℕ) → eval program input n ≡ Done output value steps
      → EndsAsMeant run.0 input settings.most [] output value ending.Ended run.3.1.grid
  finished_grid output value steps done =
      let r : State × Stepped = run_of run.0 input settings.most in
      let h : Grid AnyWeather = run.3.1.grid in
      let e : ending_of r.1 r.0.next ≡ ending.Ended =
      ap (λ (a : Stepped). ending_of a r.0.next) (finished_run output value steps done).answer in
      let ran : IsRan run.0.blocks run.0.bytes input settings.most settings.conditions (Some ending.Ended) h =
      subst (λ (x : Ending). IsRan run.0.blocks run.0.bytes input settings.most settings.conditions (Some x) h) e
      run.3.1.ran in
      let came : ComesTo run.0.blocks (start run.0.bytes input) settings.most ending.Ended h = ran.comes in
      let cost : h.counts.cycles ≤ cost_of run.0.blocks r.0.trace =
      subst (λ (c : Counts). c.cycles ≤ cost_of run.0.blocks r.0.trace) run.3.1.counted
      (run.3.1.within (ap is_trap e)) in
      runs.ran_as_meant text input settings.placing settings.unroll run.0 means settings.most settings.conditions
      ending.Ended h ran n program output value steps accepted run.2 done enough
      (subst (λ (t : State). h.counts.cycles ≤ cost_of run.0.blocks t.trace) (sym came.state) cost)

  -- where nothing is to be shown, the report of such a run tells the value alone
  pub finished_told : (output : List ℕ) (value : ℤ) (steps : ℕ) → settings.show ≡ nothing_shown
      → eval program input n ≡ Done output value steps
      → (s ≡ result_status value) × (report ≡ ended_report output value)
  finished_told output value steps none done =
      let told = finished_shown output value steps done in (
        told.0,
        told.2 ∙ nothing_behind (ended_report output value) (run_of run.0 input settings.most).0 run.3.0
            (cost_of run.0.blocks (run_of run.0 input settings.most).0.trace) settings.show none,
      )

  -- where its frames are too large within n steps
  deep_run : (output : List ℕ) → eval program input n ≡ Stopped Deep output
      → IsFull output (run_of run.0 input settings.most)
  deep_run output deep =
      let did = means.deep input run.2 n output
      (ap (λ (p : TypedProgram). eval p input n) same ∙ deep) in
      settled (run_of run.0 input) (16 * n + 6) settings.most (IsFull output) did (omega (arith, enough))

  deep_status : (output : List ℕ) → eval program input n ≡ Stopped Deep output
      → s ≡ status.StackFull
  deep_status output deep =
      run.3.2.0 ∙ ap (λ (a : Stepped). status_of (ending_of a (run_of run.0 input settings.most).0.next)
      (run_of run.0 input settings.most).0) (deep_run output deep).answer

  -- where the program's meaning is stopped for its depth, the machine's stack is full, and the report tells
  -- this, and behind it what is to be shown
  pub deep_shown : (output : List ℕ) → eval program input n ≡ Stopped Deep output
      → (s ≡ status.StackFull) × ((run_of run.0 input settings.most).1 ≡ stepped.StackFull)
      × (report ≡ shown_behind (full_report output) (run_of run.0 input settings.most).0 run.3.0
      (cost_of run.0.blocks (run_of run.0 input settings.most).0.trace) settings.show)
  deep_shown output deep = (
    deep_status output deep,
    (deep_run output deep).answer,
    run.3.2.1 ∙ ap (λ (t : List ℕ). shown_behind t (run_of run.0 input settings.most).0 run.3.0
        (cost_of run.0.blocks (run_of run.0 input settings.most).0.trace) settings.show)
        (full (run_of run.0 input settings.most) output (deep_run output deep)),
  )

  -- where nothing is to be shown, the report of such a run tells the full stack alone
  pub deep_told : (output : List ℕ) → settings.show ≡ nothing_shown
      → eval program input n ≡ Stopped Deep output
      → (s ≡ status.StackFull) × (report ≡ full_report output)
  deep_told output none deep =
      let told = deep_shown output deep in (
        told.0,
        told.2 ∙ nothing_behind (full_report output) (run_of run.0 input settings.most).0 run.3.0
            (cost_of run.0.blocks (run_of run.0 input settings.most).0.trace) settings.show none,
      )

  -- where the budget was spent
  pub spent_told : s ≡ status.Budget → HasNotEnded (eval program input n)
  spent_told spent = go (eval program input n) refl
    where
      go : (o : Outcome) → eval program input n ≡ o → HasNotEnded o
      go (Stopped More output) e = tt
      go (Stopped Undefined output) e = tt
      go (Stopped Deep output) e =
          let told : status.Budget ≡ status.StackFull = sym spent ∙ deep_status output e in absurd (cc)
      go (Done output value steps) e =
          absurd (not_spent (cast_unsigned w64 value) (sym spent ∙ finished_status output value steps e))

-- CAUSES

-- what ends says that the evaluation is done or undefined, with a result or with an abort
says_ended : (b : Bool) (o : Outcome) → AnswersAs stepped.Ended o → SaysOf (cond b status.Aborted status.Ended) o
says_ended true (Stopped More output) h = absurd h
says_ended true (Stopped Undefined output) h = tt
says_ended true (Stopped Deep output) h = absurd h
says_ended true (Done output value steps) h = tt
says_ended false (Stopped More output) h = absurd h
says_ended false (Stopped Undefined output) h = tt
says_ended false (Stopped Deep output) h = absurd h
says_ended false (Done output value steps) h = tt

says : (a : Stepped) (t : State) (o : Outcome) → AnswersAs a o → SaysOf (status_of (ending_of a t.next) t) o
says stepped.Went t (Stopped More output) h = tt
says stepped.Went t (Stopped Undefined output) h = tt
says stepped.Went t (Stopped Deep output) h = tt
says stepped.Went t (Done output value steps) h = tt
says stepped.Ended t o h = says_ended (slice_index t.registers 3 == aborted_word) o h
says stepped.StackFull t (Stopped More output) h = absurd h
says stepped.StackFull t (Stopped Undefined output) h = tt
says stepped.StackFull t (Stopped Deep output) h = tt
says stepped.StackFull t (Done output value steps) h = absurd h
says (stepped.Trap cause) t (Stopped More output) h = absurd h
says (stepped.Trap cause) t (Stopped Undefined output) h = tt
says (stepped.Trap cause) t (Stopped Deep output) h = absurd h
says (stepped.Trap cause) t (Done output value steps) h = absurd h

-- the end of a text's run, of names that hold the text and the input
pub run_ends_as : (held : List ℕ → Option (List ℕ)) (q : Request) (text input : List ℕ) (s : Status)
    (report : List ℕ) → Holds (origin_held held q.origin) text → HoldsInput q.input held input
    → IsRunOfText (settings_of q) text input s report → RunEndsAs held q s
run_ends_as held q text input s report holds holds_input run =
    let m : MeansText text q.placing q.unroll run.0 = images_mean text q.placing q.unroll run.0 run.1 in
    let r : State × Stepped = run_of run.0 input q.most in
    record {
      text = text;
      input = input;
      holds = holds;
      holds_input = holds_input;
      program = m.program;
      accepted = m.accepted;
      tokens = m.tokens;
      lexed = m.lexed;
      says = λ n lt. subst (λ (x : Status). SaysOf x (eval m.program input n)) (sym run.3.2.0)
          (says r.1 r.0 (eval m.program input n) (m.ends input run.2 q.most n lt));
      spent = λ spent n enough.
          spent_told (settings_of q) n text input m.program s report run m.accepted enough spent;
    }

-- RESULTS

-- only an end has the status of an end
end_of : (a : Stepped) (t : State) → status_of (ending_of a t.next) t ≡ status.Ended → a ≡ stepped.Ended
end_of stepped.Went t e = absurd (cc)
end_of stepped.Ended t e = refl
end_of stepped.StackFull t e = absurd (cc)
end_of (stepped.Trap cause) t e = absurd (cc)

tells : (r : State × Stepped) (few : Type 0) (o : Outcome) → AgreesWith r few o
    → TellsResult r.0.output (signed (slice_index r.0.registers 3)) few o
tells r few (Stopped More output) h = h
tells r few (Stopped Undefined output) h = tt
tells r few (Stopped Deep output) h = absurd h
tells r few (Done output value steps) h =
    (h.output, signed_number (slice_index r.0.registers 3) h.word.below ∙ ap signed_decimal h.is)

-- a text's run that ended with a result, of names that hold the text and the input
pub result_means : (held : List ℕ → Option (List ℕ)) (q : Request) (text input : List ℕ) (s : Status)
    (report : List ℕ) (old new : Option (List ℕ)) → Holds (origin_held held q.origin) text
    → HoldsInput q.input held input → IsRunOfText (settings_of q) text input s report → s ≡ status.Ended
    → Appended old new report → ResultMeans held q s old new
result_means held q text input s report old new holds holds_input run ended written =
    let m : MeansText text q.placing q.unroll run.0 = images_mean text q.placing q.unroll run.0 run.1 in
    let r : State × Stepped = run_of run.0 input q.most in
    let w : ℕ = slice_index r.0.registers 3 in
    let has : status_of (ending_of r.1 r.0.next) r.0 ≡ status.Ended = sym run.3.2.0 ∙ ended in
    let is : r.1 ≡ stepped.Ended = end_of r.1 r.0 has in
    let e : ending_of r.1 r.0.next ≡ ending.Ended = ap (λ (a : Stepped). ending_of a r.0.next) is in
    let end : end_status w ≡ status.Ended = sym (ap (λ (x : Ending). status_of x r.0) e) ∙ has in
    let line : end_line w (signed w) ≡ codes "result " ++ signed w = result_said w (signed w) end in
    let told : report ≡ shown_behind (output_and r.0.output (codes "result " ++ signed w)) r.0 run.3.0
    (cost_of run.0.blocks r.0.trace) q.show =
    run.3.2.1 ∙ ap (λ (x : Ending). shown_report x r.0 run.3.0 (cost_of run.0.blocks r.0.trace) q.show) e
    ∙ ap (λ (l : List ℕ). shown_behind (output_and r.0.output l) r.0 run.3.0 (cost_of run.0.blocks r.0.trace) q.show)
    line in
    record {
      text = text;
      input = input;
      holds = holds;
      holds_input = holds_input;
      program = m.program;
      accepted = m.accepted;
      tokens = m.tokens;
      lexed = m.lexed;
      image = run.0;
      made = run.1;
      output = r.0.output;
      digits = signed (slice_index r.0.registers 3);
      reported = (run.3.0, run.3.1, ended, subst (Appended old new) told written);
      means = λ n. tells r (n ≤ q.unroll * length m.tokens * (q.most + 1)) (eval m.program input n)
          (grid.agrees text input q.placing q.unroll run.0 m.program q.most n m.accepted m run.2 is);
    }
