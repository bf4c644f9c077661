-- From the answers over the compiler's passes and the grid to those said of texts, images and the machine alone.
use Rattle.std.proofs.Common.{◌≡◌, ℕ, ◌+◌, ◌≤◌, false, List, [], ◌∷◌, length, Option, None, Some, slice_get}
use Rattle.std.proofs.Common.{IfSome, ◌⊎◌, inl, inr, refl, sym, ap, ◌∙◌, subst, arith}
use Rattle.trips_outside.specs.Outside.{Holds}
use Rattle.trips_isa.specs.declared.block.Block.{Block}
use Rattle.trips_isa.specs.declared.block.Image.{Image}
use Rattle.trips_isa.specs.declared.causes.TrapCause.{TrapCause}
use Rattle.trips_isa.specs.declared.run.Counts.{Counts}
use Rattle.trips_isa.specs.declared.run.Ending.{Ending}
use Rattle.trips_isa.specs.declared.run.Ending.TheVariants as ending
use Rattle.trips_isa.specs.declared.run.Stepped.{Stepped}
use Rattle.trips_isa.specs.Machine.{State, runs, start}
use Rattle.c_compile.specs.Images.{MeansText}
use Rattle.c_compile.proofs.Images.{images_mean}
use Rattle.grid_place.specs.declared.placed.Placing.TheVariants.{Greedy}
use Rattle.trips_listing_text.specs.Comments.{comments}
use Rattle.trips_listing_text.specs.Functions.{told_all}
use Rattle.trips_listing_answers.specs.Traps.{IsTrapTold}
use Rattle.trips_listing_answers.proofs.Bare.{tells_images}
use Rattle.c_compile.proofs.Meant.{does_text, good_blocks}
use Rattle.grid_cycle_spec.specs.Costs.{cost_in, cost_of}
use Rattle.grid_machine.specs.Answered.{ComesTo}
use Rattle.grid_cycle.specs.Traps.{is_trap}
use Rattle.grid_cycle.specs.declared.conditions.Conditions.{Conditions}
use Rattle.trips_report.specs.declared.measured.Measured.{Measured}
use Rattle.trips_report.specs.declared.show.Show.{Show}
use Rattle.trips_answers.specs.Work.{Work}
use Rattle.trips_answers.specs.Work.{Run, Evaluate, Compile, Listing, Trap}
use Rattle.trips_answers.specs.Work.{Assemble, Disassemble, Check, Draw, Explain, Record, Verify, Save, Four}
use Rattle.trips_requests.specs.declared.loading.Loaded.{Loaded}
use Rattle.trips_requests.specs.declared.loading.Loaded.TheVariants.{Fault, TooLarge, Bytes}
use Rattle.trips_requests.specs.declared.status.Status.{Status}
use Rattle.trips_requests.specs.declared.status.Status.TheVariants as status
use Rattle.trips_requests.specs.Table.{IsRead, AfterReading}
use Rattle.trips_requests.specs.Table.{Wrote}
use Rattle.trips_answers.specs.declared.forms.FileForm.{FileForm}
use Rattle.trips_answers.specs.declared.forms.FileForm.TheVariants as form
use Rattle.trips_answers.specs.declared.forms.Settings.{Settings}
use Rattle.trips_answers.specs.Request.{Request, origin_held}
use Rattle.trips_answers.specs.Settings.{settings_of}
use Rattle.trips_answers.specs.Asks.{limit_of}
use Rattle.trips_answers.specs.Read.{IsInputRead, IsLarge}
use Rattle.trips_answers.specs.Report.{CountsRun, ending_of, run_report, shown_report, status_of, trap_cost}
use Rattle.trips_grid_answers.specs.Counted.{IsCountedFrom}
use Rattle.trips_grid_answers.specs.Report.{TellsRunFrom}
use Rattle.trips_grid_answers.proofs.Flushes.{flushes_shown}
use Rattle.trips_grid_answers.specs.Runs.{IsRunFrom}
use Rattle.trips_answers.specs.Refused.{IsBad, MayBeRefused}
use Rattle.trips_answers.specs.Traced.{IsTraceFault, IsTraceRefused}
use Rattle.trips_answers.specs.Worked.{IsWorked, IsDone, IsDoneBehind}
use Rattle.trips_answers.specs.Answer.{IsAnswerBehind, IsAnswer}
use Rattle.trips_answers.specs.Table.{EndsAs, IsReportedFrom}
use Rattle.trips_answers.specs.Ended.{ResultMeans}
use Rattle.trips_answers.specs.Evaluated.{ResultTells}
use Rattle.trips_answers.specs.Done.{AreImagesFor, CanBeDone, DoesWork, IsImageFor, TellsTrap}
use Rattle.trips_answers.specs.Causes.{CannotBeDone, EndsOrRefuses, EndsWork, IsUnfit, MayAnswer}
use Rattle.trips_answers.specs.Causes.{MayAnswerBehind, MayBeFurtherFault, MayBeUnfit}
use Rattle.trips_requests.specs.Texts.{IsFixed, read_fault_text, too_large_text}
use Rattle.trips_answers.proofs.MadeFor.{image_for}
use Rattle.trips_answers.proofs.Traced.{part}
use Rattle.trips_answers.proofs.Exact.{first_image, refused_cannot}
use Rattle.trips_answers.specs.Fours.{AreImagesBy, IsImageBy, IsLargeAmong, IsRefusedAmong, Program, further_of}
use Rattle.trips_answers.proofs.Unfit.{further_fault, further_may}
use Rattle.trips_answers.proofs.Rows.{of_read, not_large_input}
use Rattle.trips_answers.proofs.Ends.{is_evaluation}

-- COUNTS

-- what a run may cost is the cost of its trace, and of the block that trapped
within_cost : (blocks : List Block) (cost cycles : ℕ) (ended : Ending) → (is_trap ended ≡ false → cycles ≤ cost)
    → ((block : ℕ) (cause : TrapCause) → ended ≡ ending.Trap block cause
    → cycles ≤ cost + cost_in (slice_get blocks block))
    → cycles ≤ cost + trap_cost blocks ended
within_cost blocks cost cycles ending.Ended within trapped =
    let few : cycles ≤ cost = within refl in
    let none : trap_cost blocks ending.Ended ≡ 0 = refl in omega (arith, few, none)
within_cost blocks cost cycles ending.StackFull within trapped =
    let few : cycles ≤ cost = within refl in
    let none : trap_cost blocks ending.StackFull ≡ 0 = refl in omega (arith, few, none)
within_cost blocks cost cycles ending.Budget within trapped =
    let few : cycles ≤ cost = within refl in
    let none : trap_cost blocks ending.Budget ≡ 0 = refl in omega (arith, few, none)
within_cost blocks cost cycles (ending.Trap block cause) within trapped = trapped block cause refl

-- what the grid counts, as far as the machine tells it
counts_run : (blocks : List Block) (t : State) (conditions : Conditions) (budget : ℕ) (show : Show) (ended : Ending)
    (measured : Measured) → IsCountedFrom blocks t conditions budget show ended measured
    → CountsRun blocks (runs blocks t budget).0.trace show ended measured
counts_run blocks t conditions budget show ended measured c =
    let came : ComesTo blocks t budget ended c.grid = c.ran.comes in
    record {
      committed = ap (λ (x : Counts). x.committed) c.counted ∙ c.ran.committed
          ∙ ap (λ (x : State). length x.trace) came.state;
      fetched = subst (λ (x : Counts). x.fetched ≡ x.committed + x.flushed) (sym c.counted) came.counted;
      flushed = flushes_shown blocks t conditions budget show ended measured c;
      within = within_cost blocks (cost_of blocks (runs blocks t budget).0.trace) measured.counts.cycles
          ended c.within c.trapped;
      at_most = c.at_most;
    }

-- a run that was made is told
tells_run : (blocks : List Block) (t : State) (settings : Settings) (s : Status) (report : List ℕ)
    → IsRunFrom blocks t settings.conditions settings.most settings.show s report
    → TellsRunFrom blocks t settings.most settings.show s report
tells_run blocks t settings s report run =
    let r : State × Stepped = runs blocks t settings.most in (
      run.0,
      counts_run blocks t settings.conditions settings.most settings.show (ending_of r.1 r.0.next) run.0 run.1,
      run.2,
    )

-- and one that was reported
pub reported_tells : (blocks : List Block) (t : State) (settings : Settings) (s : Status) (old new : Option (List ℕ))
    → IsReportedFrom blocks t settings
    (status_of (ending_of (runs blocks t settings.most).1 (runs blocks t settings.most).0.next)
    (runs blocks t settings.most).0)
    (run_report (ending_of (runs blocks t settings.most).1 (runs blocks t settings.most).0.next)
    (runs blocks t settings.most).0) s old new
    → Wrote old new (TellsRunFrom blocks t settings.most settings.show s)
reported_tells blocks t settings s old new told =
    let r : State × Stepped = runs blocks t settings.most in
    let e : Ending = ending_of r.1 r.0.next in (
      shown_report e r.0 told.0 (cost_of blocks r.0.trace) settings.show,
      (told.0, counts_run blocks t settings.conditions settings.most settings.show e told.0 told.1, (told.2, refl)),
      told.3,
    )

-- THE WORK

-- the images that are made of some files are those that their runs have
pub images_for : (settings : Settings) (ps : List Program) (images : List Image) → AreImagesBy settings ps images
    → AreImagesFor settings.unroll ps images
images_for settings [] [] h = tt
images_for settings (p ∷ ps) (image ∷ images) h =
    (image_for p.0 settings p.1 image h.0, images_for settings ps images h.1)
images_for settings [] (image ∷ images) h = absurd h
images_for settings (p ∷ ps) [] h = absurd h

-- what is told of a trap
pub trap_does : (text input : List ℕ) (most : ℕ) (trap : List ℕ) → IsTrapTold text input most trap
    → TellsTrap text input most trap
trap_does text input most trap h = let means = images_mean text Greedy 1 h.image h.listed.image in (
  h.image,
  does_text text Greedy 1 h.image means,
  comments h.entries (told_all text h.tokens h.tree.items),
  h.is,
)

-- work that was done, said of texts, images and the machine
does_work : (work : Work) (how : FileForm) (settings : Settings) (bytes input : List ℕ) (s : Status)
    (report : List ℕ) → IsWorked work how settings bytes input s report
    → DoesWork work how settings.unroll settings.most settings.show bytes input s report
does_work Evaluate how settings bytes input s report run = run
does_work Run form.Source settings bytes input s report run = (
  run.0,
  does_text bytes settings.placing settings.unroll run.0
      (images_mean bytes settings.placing settings.unroll run.0 run.1),
  run.2,
  tells_run run.0.blocks (start run.0.bytes input) settings s report run.3,
)
does_work Run form.Target settings bytes input s report run =
    (run.0, (run.1, run.2), tells_run run.0.blocks (start run.0.bytes input) settings s report run.3)
does_work Run form.Image settings bytes input s report run =
    (run.0, (run.1, run.2), tells_run run.0.blocks (start run.0.bytes input) settings s report run.3)
does_work Run form.Saved settings bytes input s report run =
    (run.0, run.1, run.2, run.3, tells_run run.0.blocks run.1 settings s report run.4)
does_work Save form.Source settings bytes input s report run = (
  run.0,
  does_text bytes settings.placing settings.unroll run.0
      (images_mean bytes settings.placing settings.unroll run.0 run.1),
  run.2,
)
does_work Save form.Target settings bytes input s report run = (run.0, (run.1, run.2), run.3)
does_work Save form.Image settings bytes input s report run = (run.0, (run.1, run.2), run.3)
does_work Save form.Saved settings bytes input s report run = absurd run
does_work Four how settings bytes input s report run = (
  run.0,
  run.1,
  images_for settings ((how, bytes) ∷ run.0) run.1 run.2,
  (run.3.made, run.3.within, run.3.told),
)
does_work Draw how settings bytes input s report run =
    (run.0, image_for how settings bytes run.0 run.1, run.2)
does_work Compile how settings bytes input s report run =
    let means : MeansText bytes settings.placing settings.unroll run.0 =
    images_mean bytes settings.placing settings.unroll run.0 run.1 in (
      (
        run.0,
        does_text bytes settings.placing settings.unroll run.0 means,
        good_blocks bytes settings.placing settings.unroll run.0 means,
        run.2,
      ),
      run.3,
    )
does_work Listing how settings bytes input s report run =
    let told = tells_images bytes settings.placing settings.unroll report run.0 in
    let means : MeansText bytes settings.placing settings.unroll told.0 =
    images_mean bytes settings.placing settings.unroll told.0 told.1 in (
      (
        told.0,
        does_text bytes settings.placing settings.unroll told.0 means,
        good_blocks bytes settings.placing settings.unroll told.0 means,
        told.2,
      ),
      run.1,
    )
does_work Assemble how settings bytes input s report run = run
does_work Disassemble how settings bytes input s report run = run
does_work Check how settings bytes input s report run = run
does_work (Explain file) how settings bytes input s report run = run
does_work (Trap file) how settings bytes input s report run = (
  run.0.0,
  run.0.1,
  run.0.2,
  trap_does bytes input settings.most run.0.1 run.0.3,
  run.0.4,
  run.1,
)
does_work Verify how settings bytes input s report run = run
does_work Record how settings bytes input s report run = run

-- a file of which an image is made can be run
four_can : (how : FileForm) (settings : Settings) (bytes : List ℕ) (image : Image)
    → IsImageBy how settings bytes image → CanBeDone Four how bytes
four_can form.Source settings bytes image is = (is.lowered.program, is.lowered.accepted)
four_can form.Target settings bytes image is = (image, is)
four_can form.Image settings bytes image is = (image, is)
four_can form.Saved settings bytes image is = absurd is

-- it could be done
worked_can : (work : Work) (how : FileForm) (settings : Settings) (bytes input : List ℕ) (s : Status)
    (report : List ℕ) → IsWorked work how settings bytes input s report → CanBeDone work how bytes
worked_can Evaluate how settings bytes input s report run = (run.0, run.1)
worked_can Run form.Source settings bytes input s report run = (run.1.lowered.program, run.1.lowered.accepted)
worked_can Run form.Target settings bytes input s report run = (run.0, (run.1, run.2))
worked_can Run form.Image settings bytes input s report run = (run.0, (run.1, run.2))
worked_can Run form.Saved settings bytes input s report run = (run.0, run.1, run.2)
worked_can Save form.Source settings bytes input s report run = (run.1.lowered.program, run.1.lowered.accepted)
worked_can Save form.Target settings bytes input s report run = (run.0, (run.1, run.2))
worked_can Save form.Image settings bytes input s report run = (run.0, (run.1, run.2))
worked_can Save form.Saved settings bytes input s report run = absurd run
worked_can Four how settings bytes input s report run =
    let first = first_image settings how bytes run.0 run.1 run.2 in four_can how settings bytes first.0 first.1
worked_can Draw how settings bytes input s report run = four_can how settings bytes run.0 run.1
worked_can Compile how settings bytes input s report run = (run.1.lowered.program, run.1.lowered.accepted)
worked_can Listing how settings bytes input s report run =
    let lowered = run.0.listed.image.lowered in (lowered.program, lowered.accepted)
worked_can Assemble how settings bytes input s report run = (report, run.0)
worked_can Disassemble how settings bytes input s report run = (report, run.0)
worked_can Check how settings bytes input s report run = (report, run.0)
worked_can (Explain file) how settings bytes input s report run = (settings.most, input, report, run.0)
worked_can (Trap file) how settings bytes input s report run = (settings.most, input, run.0.0, run.0.2)
worked_can Verify how settings bytes input s report run = (run.1.0, run.1.1)
worked_can Record how settings bytes input s report run = (run.0, run.1)

-- how a request's work ended
pub ends_work : (held : List ℕ → Option (List ℕ)) (q : Request) (s : Status) → EndsAs held q s → EndsWork held q s
ends_work held q s e = record {
  bytes = e.bytes;
  input = e.input;
  report = e.report;
  holds = e.holds;
  holds_input = e.holds_input;
  done = does_work q.work q.form (settings_of q) e.bytes e.input s e.report e.worked;
  undefined = λ u. is_evaluation q.work q.form (settings_of q) e.bytes e.input s e.report e.worked u;
}

-- what a result that was reported says
pub result_tells : (held : List ℕ → Option (List ℕ)) (q : Request) (s : Status) (old new : Option (List ℕ))
    → ResultMeans held q s old new → ResultTells held q old new
result_tells held q s old new m =
    let r : State × Stepped = runs m.image.blocks (start m.image.bytes m.input) q.most in
    record {
      text = m.text;
      input = m.input;
      holds = m.holds;
      holds_input = m.holds_input;
      program = m.program;
      accepted = m.accepted;
      tokens = m.tokens;
      lexed = m.lexed;
      image = m.image;
      does = does_text m.text q.placing q.unroll m.image (images_mean m.text q.placing q.unroll m.image m.made);
      output = m.output;
      digits = m.digits;
      measured = m.reported.0;
      counted = counts_run m.image.blocks (start m.image.bytes m.input) q.conditions q.most q.show
          (ending_of r.1 r.0.next) m.reported.0 m.reported.1;
      reported = m.reported.3;
      means = m.means;
    }

-- REFUSALS

cannot : (q : Request) (bytes : List ℕ) → IsBad q bytes → CannotBeDone q bytes
cannot q bytes (inl large) = inl large
cannot q bytes (inr bad) = inr (λ can. refused_cannot q.work q.form bytes bad.0 bad.1 can)

-- what is said of some bytes is said of those that are told
if_so : (P Q : List ℕ → Type 0) (told : Option (List ℕ)) → ((bytes : List ℕ) → P bytes → Q bytes) → IfSome told P
    → IfSome told Q
if_so P Q None so h = tt
if_so P Q (Some bytes) so h = so bytes h

-- a request that may be refused may be unfit
pub may_be_unfit : (q : Option Request) (held : List ℕ → Option (List ℕ)) → MayBeRefused q held → MayBeUnfit q held
may_be_unfit None held may = absurd may
may_be_unfit (Some q) held (inl bad) =
    inl (if_so (IsBad q) (CannotBeDone q) (origin_held held q.origin) (cannot q) bad)
may_be_unfit (Some q) held (inr (inl large)) = inr (inl large)
may_be_unfit (Some q) held (inr (inr (inl trace))) = inr (inr (inl trace))
may_be_unfit (Some q) held (inr (inr (inr (inl over)))) = inr (inr (inr (inl over)))
may_be_unfit (Some q) held (inr (inr (inr (inr further)))) = inr (inr (inr (inr (further_may q held further))))

-- one whose work is done is not
not_unfit : (q : Request) (bytes input : List ℕ) (s : Status) (report : List ℕ) → length bytes ≤ limit_of q.form
    → IsWorked q.work q.form (settings_of q) bytes input s report → CannotBeDone q bytes → ⊥
not_unfit q bytes input s report few run (inl large) = absurd (omega (arith, few, large))
not_unfit q bytes input s report few run (inr none) =
    none (worked_can q.work q.form (settings_of q) bytes input s report run)

module _ (q : Request) (held : List ℕ → Option (List ℕ)) (rose : Type 0) (s : Status) (report : List ℕ) where
  fit : (bytes input : List ℕ) → Holds (origin_held held q.origin) bytes → length bytes ≤ limit_of q.form
      → (IsLarge q.input held → ⊥) → IsWorked q.work q.form (settings_of q) bytes input s report
      → IsUnfit (Some q) held → ⊥
  fit bytes input h few small run (inl bad) = not_unfit q bytes input s report few run
      (of_read (CannotBeDone q) (origin_held held q.origin) bytes h bad)
  fit bytes input h few small run (inr large) = small large

  done_unfit : (bytes input : List ℕ) → IsUnfit (Some q) held → Holds (origin_held held q.origin) bytes
      → length bytes ≤ limit_of q.form → (IsLarge q.input held → ⊥)
      → IsDone q.work q.form (settings_of q) bytes input s report → (s ≡ status.Refused) ⊎ (s ≡ status.ReadFault)
  done_unfit bytes input bad h few small (inl out) = inl out.2.0
  done_unfit bytes input bad h few small (inr run) = absurd (fit bytes input h few small run bad)

  -- a fault of the trace's file
  traced_unfit : (bytes input : List ℕ) → (rose × IsFixed status.ReadFault read_fault_text s report)
      ⊎ ((trace : List ℕ) × (text : List ℕ) × Holds (held q.trace) trace × IsTraceRefused bytes input trace text
      × IsFixed status.Refused text s report) → (s ≡ status.Refused) ⊎ (s ≡ status.ReadFault)
  traced_unfit bytes input (inl u) = inr u.1.0
  traced_unfit bytes input (inr t) = inl t.4.0

  -- a fault of a further file
  further_unfit : (rose × IsFixed status.ReadFault read_fault_text s report)
      ⊎ ((IsLargeAmong (further_of held q) × IsFixed status.Refused too_large_text s report)
      ⊎ ((text : List ℕ) × IsRefusedAmong 1 (further_of held q) text × IsFixed status.Refused text s report))
      → (s ≡ status.Refused) ⊎ (s ≡ status.ReadFault)
  further_unfit (inl u) = inr u.1.0
  further_unfit (inr (inl l)) = inl l.1.0
  further_unfit (inr (inr t)) = inl t.2.0

  input_unfit : (bytes : List ℕ) (loaded : Loaded) → IsUnfit (Some q) held → Holds (origin_held held q.origin) bytes
      → length bytes ≤ limit_of q.form → IsInputRead q.input held rose loaded
      → AfterReading loaded
      (λ input. IsDoneBehind (held q.trace) (further_of held q) rose q.work q.form (settings_of q) bytes input s
      report) s report
      → (s ≡ status.Refused) ⊎ (s ≡ status.ReadFault)
  input_unfit bytes Fault bad h few i a = inr a.0
  input_unfit bytes TooLarge bad h few i a = inl a.0
  input_unfit bytes (Bytes input) bad h few i a =
      elim (part (held q.trace) (further_of held q) rose q.work q.form (settings_of q) bytes input s report a) [
        | inl d ↦ done_unfit bytes input bad h few (not_large_input q.input held rose input i) d
        | inr (inl f) ↦ traced_unfit bytes input f.1
        | inr (inr f) ↦ further_unfit f.1
      ]

  asked_unfit : (loaded : Loaded) → IsUnfit (Some q) held
      → IsRead (origin_held held q.origin) rose (limit_of q.form) loaded
      → AfterReading loaded (λ bytes. IsAnswerBehind q held rose bytes s report) s report
      → (s ≡ status.Refused) ⊎ (s ≡ status.ReadFault)
  asked_unfit Fault bad h a = inr a.0
  asked_unfit TooLarge bad h a = inl a.0
  asked_unfit (Bytes bytes) bad h a = input_unfit bytes a.0 bad h.0 h.1 a.1 a.2

-- what is answered to an unfit request
pub unfit_row : (q : Option Request) (held : List ℕ → Option (List ℕ)) (rose : Type 0) (s : Status) (report : List ℕ)
    → IsAnswer q held rose s report → IsUnfit q held → (s ≡ status.Refused) ⊎ (s ≡ status.ReadFault)
unfit_row None held rose s report a bad = absurd bad
unfit_row (Some q) held rose s report a bad = asked_unfit q held rose s report a.0 bad a.1 a.2

-- THE TABLE

-- what follows a reading follows it in other words
after_so : (loaded : Loaded) (P Q : List ℕ → Type 0) (s : Status) (report : List ℕ)
    → ((bytes : List ℕ) → P bytes → Q bytes) → AfterReading loaded P s report → AfterReading loaded Q s report
after_so Fault P Q s report so a = a
after_so TooLarge P Q s report so a = a
after_so (Bytes bytes) P Q s report so a = so bytes a

done_so : (q : Request) (bytes input : List ℕ) (s : Status) (report : List ℕ)
    → IsDone q.work q.form (settings_of q) bytes input s report → EndsOrRefuses q bytes input s report
done_so q bytes input s report (inl out) =
    inl ((λ can. refused_cannot q.work q.form bytes out.0 out.1 can), out.2.0)
done_so q bytes input s report (inr run) =
    inr (does_work q.work q.form (settings_of q) bytes input s report run)

behind_so : (q : Request) (held : List ℕ → Option (List ℕ)) (rose : Type 0) (bytes : List ℕ) (s : Status)
    (report : List ℕ) → IsAnswerBehind q held rose bytes s report → MayAnswerBehind q held rose bytes s report
behind_so q held rose bytes s report b = (
  b.0,
  b.1,
  after_so b.0
      (λ input. IsDoneBehind (held q.trace) (further_of held q) rose q.work q.form (settings_of q) bytes input s
      report)
      (λ input. EndsOrRefuses q bytes input s report
      ⊎ (IsTraceFault (held q.trace) rose q.work bytes input s report
      ⊎ MayBeFurtherFault (further_of held q) rose q.work s report))
      s report (λ input d. elim
      (part (held q.trace) (further_of held q) rose q.work q.form (settings_of q) bytes input s report d) [
        | inl w ↦ inl (done_so q bytes input s report w)
        | inr (inl f) ↦ inr (inl f)
        | inr (inr f) ↦ inr (inr (further_fault (further_of held q) rose q.work s report f))
      ]) b.2,
)

-- each answer that holds is one that may come
pub answer_so : (q : Option Request) (held : List ℕ → Option (List ℕ)) (rose : Type 0) (s : Status) (report : List ℕ)
    → IsAnswer q held rose s report → MayAnswer q held rose s report
answer_so None held rose s report a = a
answer_so (Some q) held rose s report a = (
  a.0,
  a.1,
  after_so a.0 (λ bytes. IsAnswerBehind q held rose bytes s report)
      (λ bytes. MayAnswerBehind q held rose bytes s report) s report
      (λ bytes b. behind_so q held rose bytes s report b) a.2,
)
