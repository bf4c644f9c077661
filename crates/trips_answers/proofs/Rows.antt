-- What the row of a request says of each answer.
use Rattle.std.proofs.Common.{◌≡◌, ℕ, ◌-◌, ◌<◌, ◌≤◌, Bool, true, false, List, [], ◌∷◌, Option, None}
use Rattle.std.proofs.Common.{Some}
use Rattle.std.proofs.Common.{IfSome, IsSomeAnd, length, ◌⊎◌, inl, inr, refl, sym}
use Rattle.std.proofs.Common.{◌∙◌, ap, subst, arith, slice_index, cond}
use Rattle.std.specs.Prelude.{◌==◌}
use Rattle.std.specs.Int.{w64, cast_unsigned}
use Rattle.trips_requests.specs.Results.{aborted_word}
use Rattle.trips_outside.specs.Outside.{Holds}
use Rattle.trips_isa.specs.declared.block.Block.{Block}
use Rattle.trips_isa.specs.declared.block.Image.{Image}
use Rattle.trips_isa.specs.declared.run.Ending.{Ending}
use Rattle.trips_isa.specs.declared.run.Ending.TheVariants as ending
use Rattle.trips_isa.specs.Machine.{State, runs, start}
use Rattle.c_meaning.specs.declared.outcome.Outcome.{Outcome}
use Rattle.c_meaning.specs.declared.outcome.Outcome.TheVariants as outcome
use Rattle.trips_answers.specs.Work.{Work}
use Rattle.trips_answers.specs.Work.{Run, Evaluate, Compile, Listing, Trap}
use Rattle.trips_answers.specs.Work.{Assemble, Disassemble, Check, Draw, Explain, Record, Verify, Save, Four}
use Rattle.trips_answers.specs.declared.forms.FileForm.{FileForm}
use Rattle.trips_answers.specs.declared.forms.FileForm.TheVariants as form
use Rattle.trips_answers.specs.declared.forms.Settings.{Settings}
use Rattle.trips_requests.specs.declared.loading.Loaded.{Loaded}
use Rattle.trips_requests.specs.declared.loading.Loaded.TheVariants.{Fault, TooLarge, Bytes}
use Rattle.trips_requests.specs.declared.status.Status.{Status}
use Rattle.trips_requests.specs.declared.status.Status.TheVariants as status
use Rattle.trips_answers.specs.Request.{Request, origin_held}
use Rattle.trips_answers.specs.Settings.{settings_of}
use Rattle.trips_answers.specs.Read.{HoldsInput, IsInputRead, MayBeLarge, IsLarge}
use Rattle.trips_answers.specs.Traced.{IsTraceFault, IsTraceRefused}
use Rattle.trips_answers.specs.Fours.{IsFurtherFault, IsLargeAmong, IsRefusedAmong, further_of}
use Rattle.trips_four_answers.specs.Report.{first_status, own_ending, own_run, status_or}
use Rattle.trips_answers.specs.Asks.{limit_of, most_input_bytes}
use Rattle.trips_requests.specs.Table.{IsRead, AfterReading}
use Rattle.trips_report.specs.Endings.{status_by}
use Rattle.trips_answers.specs.Report.{ending_of}
use Rattle.c_compile.proofs.Images.{images_mean}
use Rattle.c_compile.proofs.Meant.{does_text}
use Rattle.trips_draw_answers.specs.Drawn.{IsBlockDrawn}
use Rattle.trips_grid_answers.specs.Runs.{IsRunFrom}
use Rattle.trips_grid_answers.specs.Saved.{IsSavedRun}
use Rattle.trips_answers.specs.Done.{IsImageFor}
use Rattle.trips_answers.specs.Worked.{IsWorked, IsDone, IsDoneBehind}
use Rattle.trips_eval_answers.specs.Evaluation.{eval_status, outcome_of}
use Rattle.trips_answers.specs.Answer.{IsAnswerBehind, IsAnswer}
use Rattle.trips_answers.specs.Refused.{IsBad, Lacks, MayBeRefused, IsRefused}
use Rattle.trips_requests.specs.Texts.{IsFixed, read_fault_text, too_large_text}
use Rattle.trips_answers.proofs.Exact.{not_worked}
use Rattle.trips_answers.proofs.MadeFor.{image_for}
use Rattle.trips_answers.proofs.Traced.{part}

-- the statuses that tell how a run or an evaluation ended
unfoldable pub is_told : Status → Bool
is_told status.Ended = true
is_told status.StackFull = true
is_told status.Budget = true
is_told status.Trap = true
is_told status.Undefined = true
is_told status.Aborted = true
is_told other = false

-- so does the status of a program that has ended
end_tells : (b : Bool) → is_told (cond b status.Aborted status.Ended) ≡ true
unfolding is_told
end_tells true = refl
end_tells false = refl

tells : (e : Ending) (w : ℕ) → is_told (status_by e w) ≡ true
unfolding is_told
tells ending.Ended w = end_tells (w == aborted_word)
tells ending.StackFull w = refl
tells ending.Budget w = refl
tells (ending.Trap block cause) w = refl

run_tells : (blocks : List Block) (t : State) (settings : Settings) (s : Status) (report : List ℕ)
    → IsRunFrom blocks t settings.conditions settings.most settings.show s report → is_told s ≡ true
run_tells blocks t settings s report run =
    ap is_told run.2.0 ∙ tells (ending_of (runs blocks t settings.most).1 (runs blocks t settings.most).0.next)
    (slice_index (runs blocks t settings.most).0.registers 3)

-- an image that the file is read as lacks what is asked of it
record LacksIn (work : Work) (how : FileForm) (settings : Settings) (bytes input : List ℕ) : Type 0 where
  pub image : Image
  pub is_image : IsImageFor how settings.unroll bytes image
  pub lacks : Lacks work image input settings.most

-- a status tells how work ended, or the image lacks what is asked of it
abbrev Tells : Work → FileForm → Settings → List ℕ → List ℕ → Status → Type 0
Tells work how settings bytes input s = (is_told s ≡ true)
    ⊎ ((s ≡ status.Refused) × LacksIn work how settings bytes input)

saved_tells : (how : FileForm) (settings : Settings) (bytes input : List ℕ) (image : Image) (s : Status)
    (report : List ℕ) → IsImageFor how settings.unroll bytes image → IsSavedRun image input settings.most s report
    → Tells Save how settings bytes input s
unfolding is_told
saved_tells how settings bytes input image s report is (inl saved) = inl (ap is_told saved.2)
saved_tells how settings bytes input image s report is (inr over) =
    inr (over.1.0, record { image = image; is_image = is; lacks = over.0 })

drawn_tells : (how : FileForm) (settings : Settings) (bytes input : List ℕ) (image : Image) (s : Status)
    (report : List ℕ) → IsImageFor how settings.unroll bytes image
    → IsBlockDrawn image.blocks (settings.most - 1) s report → Tells Draw how settings bytes input s
unfolding is_told
drawn_tells how settings bytes input image s report is (inl drawn) = inl (ap is_told drawn.1)
drawn_tells how settings bytes input image s report is (inr none) =
    inr (none.1.0, record { image = image; is_image = is; lacks = none.0 })

eval_tells : (o : Outcome) → is_told (eval_status o) ≡ true
unfolding is_told
eval_tells (outcome.More output at calls) = refl
eval_tells (outcome.Undefined output why at calls) = refl
eval_tells (outcome.Deep output at calls) = refl
eval_tells (outcome.Done output result steps) = end_tells (cast_unsigned w64 result == aborted_word)

-- the first end of some that is none of a result, or that of the last, tells how a run ended
end_first : (b : Bool) (later : Status) → is_told later ≡ true
    → is_told (status_or (cond b status.Aborted status.Ended) later) ≡ true
unfolding is_told
end_first true later told = refl
end_first false later told = told

first_tells : (e : Ending) (w : ℕ) (later : Status) → is_told later ≡ true
    → is_told (status_or (status_by e w) later) ≡ true
unfolding is_told
first_tells ending.Ended w later told = end_first (w == aborted_word) later told
first_tells ending.StackFull w later told = refl
first_tells ending.Budget w later told = refl
first_tells (ending.Trap block cause) w later told = refl

four_tell : (input : List ℕ) (most : ℕ) (images : List Image) → is_told (first_status input most images) ≡ true
unfolding is_told
four_tell input most [] = refl
four_tell input most (image ∷ images) =
    first_tells (own_ending input most image) (slice_index (own_run input most image).0.registers 3)
    (first_status input most images) (four_tell input most images)

-- work that is done tells how it ended, but where the image lacks what is asked of it
work_tells : (work : Work) (how : FileForm) (settings : Settings) (bytes input : List ℕ)
    (s : Status) (report : List ℕ) → IsWorked work how settings bytes input s report
    → Tells work how settings bytes input s
unfolding is_told
work_tells Evaluate how settings bytes input s report run =
    inl (ap is_told run.2.0 ∙ eval_tells (outcome_of run.0 input settings.most))
work_tells Run form.Source settings bytes input s report run =
    inl (run_tells run.0.blocks (start run.0.bytes input) settings s report run.3)
work_tells Run form.Target settings bytes input s report run =
    inl (run_tells run.0.blocks (start run.0.bytes input) settings s report run.3)
work_tells Run form.Image settings bytes input s report run =
    inl (run_tells run.0.blocks (start run.0.bytes input) settings s report run.3)
work_tells Run form.Saved settings bytes input s report run =
    inl (run_tells run.0.blocks run.1 settings s report run.4)
work_tells Save form.Source settings bytes input s report run =
    saved_tells form.Source settings bytes input run.0 s report
    (does_text bytes settings.placing settings.unroll run.0
    (images_mean bytes settings.placing settings.unroll run.0 run.1)) run.2
work_tells Save form.Target settings bytes input s report run =
    saved_tells form.Target settings bytes input run.0 s report (run.1, run.2) run.3
work_tells Save form.Image settings bytes input s report run =
    saved_tells form.Image settings bytes input run.0 s report (run.1, run.2) run.3
work_tells Save form.Saved settings bytes input s report run = absurd run
work_tells Four how settings bytes input s report run =
    inl (ap is_told run.3.told.0 ∙ four_tell input settings.most run.1)
work_tells Draw how settings bytes input s report run =
    drawn_tells how settings bytes input run.0 s report (image_for how settings bytes run.0 run.1) run.2
work_tells Compile how settings bytes input s report run = inl (ap is_told run.3)
work_tells Listing how settings bytes input s report run = inl (ap is_told run.1)
work_tells Assemble how settings bytes input s report run = inl (ap is_told run.1)
work_tells Disassemble how settings bytes input s report run = inl (ap is_told run.1)
work_tells Check how settings bytes input s report run = inl (ap is_told run.1)
work_tells (Explain file) how settings bytes input s report run = inl (ap is_told run.1)
work_tells (Trap file) how settings bytes input s report run = inl (ap is_told run.1)
work_tells Verify how settings bytes input s report run = inl (ap is_told run.1.5.0)
work_tells Record how settings bytes input s report run = inl (ap is_told run.2.3 ∙ tells run.2.0 run.2.1)

-- The kinds of an answer: usage, a fault of reading, a refusal, and the end of the work.
pub data Kind (q : Option Request) (held : List ℕ
    → Option (List ℕ)) (rose : Type 0) (s : Status) : Type 0 where
  usage : s ≡ status.Usage → q ≡ None → Kind q held rose s
  unread : s ≡ status.ReadFault → rose → Kind q held rose s
  refused : s ≡ status.Refused → MayBeRefused q held → Kind q held rose s
  ran : is_told s ≡ true → (IsRefused q held → ⊥) → Kind q held rose s

-- files -----------------------------------------------------------------------------------------

-- what is said of the bytes that were read is said of those that are told
of_told : (P : List ℕ → Type 0) (told : Option (List ℕ)) (bytes : List ℕ) → Holds told bytes
    → P bytes → IfSome told P
of_told P None bytes h p = tt
of_told P (Some held) bytes h p = subst P h p

-- and the other way round
pub of_read : (P : List ℕ → Type 0) (told : Option (List ℕ)) (bytes : List ℕ) → Holds told bytes
    → IsSomeAnd told P → P bytes
of_read P None bytes h p = absurd p
of_read P (Some held) bytes h p = subst P (sym h) p

-- a file that is too large is told to be so
if_large : (P : List ℕ → Type 0) (limit : ℕ) (told : Option (List ℕ))
    → ((bytes : List ℕ) → limit < length bytes → P bytes)
    → IfSome told (λ bytes. limit < length bytes) → IfSome told P
if_large P limit None large h = tt
if_large P limit (Some bytes) large h = large bytes h

-- the same of an input
input_fault : (input : Option (List ℕ)) (held : List ℕ → Option (List ℕ)) (rose : Type 0)
    → IsInputRead input held rose Fault → rose
input_fault None held rose h = absurd (cc)
input_fault (Some name) held rose h = h

input_too_large : (input : Option (List ℕ)) (held : List ℕ → Option (List ℕ)) (rose : Type 0)
    → IsInputRead input held rose TooLarge → MayBeLarge input held
input_too_large None held rose h = absurd (cc)
input_too_large (Some name) held rose h = h

-- an input that was read is the one that is held
pub input_held : (input : Option (List ℕ)) (held : List ℕ → Option (List ℕ)) (rose : Type 0)
    (bytes : List ℕ) → IsInputRead input held rose (Bytes bytes) → HoldsInput input held bytes
input_held None held rose bytes h = cc
input_held (Some name) held rose bytes h = h.0

-- input that was read is not too large
pub not_large_input : (input : Option (List ℕ)) (held : List ℕ → Option (List ℕ)) (rose : Type 0)
    (bytes : List ℕ) → IsInputRead input held rose (Bytes bytes) → IsLarge input held → ⊥
not_large_input None held rose bytes h large = large
not_large_input (Some name) held rose bytes h large =
    let lt = of_read (λ (bs : List ℕ). most_input_bytes < length bs) (held name) bytes h.0 large in
    absurd (omega (arith, h.1, lt))

-- answers ---------------------------------------------------------------------------------------

module _ (q : Request) (held : List ℕ → Option (List ℕ)) (rose : Type 0) (s : Status)
    (report : List ℕ) where
  -- bytes that were worked with are not bad
  not_bad : (bytes input : List ℕ) → length bytes ≤ limit_of q.form
      → IsWorked q.work q.form (settings_of q) bytes input s report → IsBad q bytes → ⊥
  not_bad bytes input few run (inl large) = absurd (omega (arith, few, large))
  not_bad bytes input few run (inr bad) =
      not_worked q.work q.form (settings_of q) bytes input s report bad.0 bad.1 run

  -- a fault of the trace's file
  traced_kind : (bytes input : List ℕ) → Holds (origin_held held q.origin) bytes → HoldsInput q.input held input
      → IsTraceFault (held q.trace) rose q.work bytes input s report → Kind (Some q) held rose s
  traced_kind bytes input h i f = go f.1
    where
      go : (rose × IsFixed status.ReadFault read_fault_text s report)
          ⊎ ((trace : List ℕ) × (text : List ℕ) × Holds (held q.trace) trace × IsTraceRefused bytes input trace text
          × IsFixed status.Refused text s report) → Kind (Some q) held rose s
      go (inl u) = unread u.1.0 u.0
      go (inr t) = refused t.4.0 (inr (inr (inl (record {
        is_work = f.0;
        bytes = bytes;
        input = input;
        trace = t.0;
        text = t.1;
        holds = h;
        holds_input = i;
        holds_trace = t.2;
        refused = t.3;
      }))))

  -- a fault of a further file
  further_kind : IsFurtherFault (further_of held q) rose q.work s report → Kind (Some q) held rose s
  further_kind f = go f.1
    where
      go : (rose × IsFixed status.ReadFault read_fault_text s report)
          ⊎ ((IsLargeAmong (further_of held q) × IsFixed status.Refused too_large_text s report)
          ⊎ ((text : List ℕ) × IsRefusedAmong 1 (further_of held q) text × IsFixed status.Refused text s report))
          → Kind (Some q) held rose s
      go (inl u) = unread u.1.0 u.0
      go (inr (inl l)) = refused l.1.0 (inr (inr (inr (inr (record { is_work = f.0; bad = inl l.0 })))))
      go (inr (inr t)) = refused t.2.0 (inr (inr (inr (inr (record { is_work = f.0; bad = inr (t.0, t.1) })))))

  done_kind : (bytes input : List ℕ) → Holds (origin_held held q.origin) bytes
      → length bytes ≤ limit_of q.form → HoldsInput q.input held input → (IsLarge q.input held → ⊥)
      → IsDone q.work q.form (settings_of q) bytes input s report → Kind (Some q) held rose s
  done_kind bytes input h few i small (inl out) =
      refused out.2.0 (inl (of_told (IsBad q) (origin_held held q.origin) bytes h (inr (out.0, out.1))))
  done_kind bytes input h few i small (inr run) =
      by (work_tells q.work q.form (settings_of q) bytes input s report run)
    where
      not_refused : IsRefused (Some q) held → ⊥
      not_refused (inl bad) =
          not_bad bytes input few run (of_read (IsBad q) (origin_held held q.origin) bytes h bad)
      not_refused (inr large) = small large

      by : Tells q.work q.form (settings_of q) bytes input s → Kind (Some q) held rose s
      by (inl told) = ran told not_refused
      by (inr lack) = refused lack.0 (inr (inr (inr (inl (record {
        bytes = bytes;
        input = input;
        image = lack.1.image;
        holds = h;
        holds_input = i;
        is_image = lack.1.is_image;
        lacks = lack.1.lacks;
      })))))

  input_kind : (bytes : List ℕ) (loaded : Loaded) → Holds (origin_held held q.origin) bytes
      → length bytes ≤ limit_of q.form → IsInputRead q.input held rose loaded
      → AfterReading loaded
      (λ input. IsDoneBehind (held q.trace) (further_of held q) rose q.work q.form (settings_of q) bytes input s
      report) s report
      → Kind (Some q) held rose s
  input_kind bytes Fault h few i a = unread a.0 (input_fault q.input held rose i)
  input_kind bytes TooLarge h few i a =
      refused a.0 (inr (inl (input_too_large q.input held rose i)))
  input_kind bytes (Bytes input) h few i a =
      elim (part (held q.trace) (further_of held q) rose q.work q.form (settings_of q) bytes input s report a) [
        | inl d ↦ done_kind bytes input h few (input_held q.input held rose input i)
            (not_large_input q.input held rose input i) d
        | inr (inl f) ↦ traced_kind bytes input h (input_held q.input held rose input i) f
        | inr (inr f) ↦ further_kind f
      ]

  asked_kind : (loaded : Loaded) → IsRead (origin_held held q.origin) rose (limit_of q.form) loaded
      → AfterReading loaded (λ bytes. IsAnswerBehind q held rose bytes s report) s report
      → Kind (Some q) held rose s
  asked_kind Fault h a = unread a.0 h
  asked_kind TooLarge h a =
      refused a.0
      (inl (if_large (IsBad q) (limit_of q.form) (origin_held held q.origin) (λ bytes lt. inl lt) h))
  asked_kind (Bytes bytes) h a = input_kind bytes a.0 h.0 h.1 a.1 a.2

-- every answer is of one of the kinds
pub kind : (q : Option Request) (held : List ℕ
    → Option (List ℕ)) (rose : Type 0) (s : Status) (report : List ℕ)
    → IsAnswer q held rose s report → Kind q held rose s
kind None held rose s report a = usage a.0 refl
kind (Some q) held rose s report a = asked_kind q held rose s report a.0 a.1 a.2

-- the causes ----------------------------------------------------------------------------------

-- the status for usage is answered only where the words ask for nothing
pub usage_row : (q : Option Request) (held : List ℕ → Option (List ℕ)) (rose : Type 0) (s : Status)
    → Kind q held rose s → s ≡ status.Usage → q ≡ None
unfolding is_told
usage_row q held rose s (usage is none) e = none
usage_row q held rose s (unread is up) e = absurd (cc)
usage_row q held rose s (refused is may) e = absurd (cc)
usage_row q held rose s (ran is out) e = let t : is_told s ≡ false = ap is_told e in absurd (cc)

-- the status for a fault of reading is answered only where such a fault rose
pub read_fault_row : (q : Option Request) (held : List ℕ → Option (List ℕ)) (rose : Type 0)
    (s : Status)
    → Kind q held rose s → s ≡ status.ReadFault → rose
unfolding is_told
read_fault_row q held rose s (usage is none) e = absurd (cc)
read_fault_row q held rose s (unread is up) e = up
read_fault_row q held rose s (refused is may) e = absurd (cc)
read_fault_row q held rose s (ran is out) e = let t : is_told s ≡ false = ap is_told e in absurd
    (cc)

-- the status for a refusal is answered only where the request may be refused
pub refused_row : (q : Option Request) (held : List ℕ → Option (List ℕ)) (rose : Type 0)
    (s : Status)
    → Kind q held rose s → s ≡ status.Refused → MayBeRefused q held
unfolding is_told
refused_row q held rose s (usage is none) e = absurd (cc)
refused_row q held rose s (unread is up) e = absurd (cc)
refused_row q held rose s (refused is may) e = may
refused_row q held rose s (ran is out) e = let t : is_told s ≡ false = ap is_told e in absurd (cc)

-- no answer is want of memory or a failed write
pub no_row : (q : Option Request) (held : List ℕ → Option (List ℕ)) (rose : Type 0) (s : Status)
    → Kind q held rose s → (s ≡ status.Memory) ⊎ (s ≡ status.WriteFault) → ⊥
unfolding is_told
no_row q held rose s (usage is none) (inl e) = absurd (cc)
no_row q held rose s (usage is none) (inr e) = absurd (cc)
no_row q held rose s (unread is up) (inl e) = absurd (cc)
no_row q held rose s (unread is up) (inr e) = absurd (cc)
no_row q held rose s (refused is may) (inl e) = absurd (cc)
no_row q held rose s (refused is may) (inr e) = absurd (cc)
no_row q held rose s (ran is out) (inl e) = let t : is_told s ≡ false = ap is_told e in absurd (cc)
no_row q held rose s (ran is out) (inr e) = let t : is_told s ≡ false = ap is_told e in absurd (cc)

not_refused_without : (q : Option Request) (held : List ℕ → Option (List ℕ)) → q ≡ None
    → IsRefused q held → ⊥
not_refused_without None held e out = out
not_refused_without (Some r) held e out = absurd (cc)

-- a request that is refused is answered so, or with a fault of reading
pub refused_comes_row : (q : Option Request) (held : List ℕ → Option (List ℕ)) (rose : Type 0)
    (s : Status)
    → Kind q held rose s → IsRefused q held → (s ≡ status.Refused) ⊎ (s ≡ status.ReadFault)
refused_comes_row q held rose s (usage is none) bad = absurd (not_refused_without q held none bad)
refused_comes_row q held rose s (unread is up) bad = inr is
refused_comes_row q held rose s (refused is may) bad = inl is
refused_comes_row q held rose s (ran is out) bad = absurd (out bad)

-- where the words ask for nothing, the status for usage is answered
pub usage_comes_row : (q : Option Request) (held : List ℕ
    → Option (List ℕ)) (rose : Type 0) (s : Status) (report : List ℕ)
    → IsAnswer q held rose s report → q ≡ None → s ≡ status.Usage
usage_comes_row None held rose s report a e = a.0
usage_comes_row (Some r) held rose s report a e = absurd (cc)
