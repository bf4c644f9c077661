-- The causes of the answers, from the table.
use Rattle.std.proofs.Common.{◌≡◌, ◌≢◌, ℕ, List, [], ◌∷◌, Option, None, Some, ◌⊎◌, inl, inr}
use Rattle.std.proofs.Common.{refl, ap, sym, subst, true, false}
use Rattle.trips_outside.specs.Outside.{Appended, AppendedPart}
use Rattle.trips_answers.specs.Work.{Work}
use Rattle.trips_answers.specs.Work.{Run, Evaluate}
use Rattle.trips_answers.specs.declared.forms.FileForm.{FileForm}
use Rattle.trips_answers.specs.declared.forms.FileForm.TheVariants as form
use Rattle.trips_requests.specs.declared.status.Status.{Status}
use Rattle.trips_requests.specs.declared.status.Status.TheVariants as status
use Rattle.trips_answers.specs.Request.{Request}
use Rattle.trips_answers.specs.Settings.{settings_of}
use Rattle.trips_answers.specs.Refused.{MayBeRefused, IsRefused}
use Rattle.trips_answers.specs.Worked.{IsWorked}
use Rattle.trips_answers.specs.Answer.{IsAnswer}
use Rattle.trips_answers.specs.Table.{IsAnswered, EndsAs, EvalEnds}
use Rattle.trips_answers.specs.inside.Table.{IsCutOff}
use Rattle.trips_requests.specs.Table.{IsOneOf}
use Rattle.trips_answers.specs.Causes.{IsUnfit}
use Rattle.trips_answers.specs.Evaluated.{RunEndsAs}
use Rattle.trips_answers.specs.Ended.{ResultMeans}
use Rattle.trips_answers.proofs.Rows.{kind, usage_row, read_fault_row, refused_row, no_row}
use Rattle.trips_answers.proofs.Rows.{usage_comes_row, refused_comes_row, is_told}
use Rattle.trips_answers.proofs.Compiled as compiled
use Rattle.trips_answers.proofs.Compiled.{run_ends_as}
use Rattle.trips_answers.proofs.Ends.{ends_row, ends_row_with, some_asked, undefined_row}
use Rattle.trips_answers.proofs.Plainly.{unfit_row}

module _ (held : List ℕ → Option (List ℕ)) (rose : Type 0) (old new : Option (List ℕ))
    (cut : Type 0) (q : Option Request) where
  -- the whole report was written
  IsWhole : Status → Type 0
  IsWhole s = (report : List ℕ) × IsAnswer q held rose s report × Appended old new report

  -- nothing was written, a part, or the whole
  split : (s : Status) → IsAnswered q held rose old new cut s → (s ≡ status.Memory)
      ⊎ (((s ≡ status.WriteFault) × cut) ⊎ IsWhole s)
  unfolding IsWhole
  split status.Memory a = inl refl
  split status.WriteFault a = inr (inl (refl, a.0))
  split status.Ended a = inr (inr a)
  split status.Usage a = inr (inr a)
  split status.ReadFault a = inr (inr a)
  split status.Refused a = inr (inr a)
  split status.Budget a = inr (inr a)
  split status.StackFull a = inr (inr a)
  split status.Trap a = inr (inr a)
  split status.Undefined a = inr (inr a)
  split status.Aborted a = inr (inr a)

  -- a whole report makes the row of its status
  pub whole : (s : Status) (report : List ℕ) → IsAnswer q held rose s report
      → Appended old new report → IsAnswered q held rose old new cut s
  whole status.Memory report a w =
      absurd (no_row q held rose status.Memory (kind q held rose status.Memory report a) (inl refl))
  whole status.WriteFault report a w =
      absurd (no_row q held rose status.WriteFault (kind q held rose status.WriteFault report a)
      (inr refl))
  whole status.Ended report a w = (report, a, w)
  whole status.Usage report a w = (report, a, w)
  whole status.ReadFault report a w = (report, a, w)
  whole status.Refused report a w = (report, a, w)
  whole status.Budget report a w = (report, a, w)
  whole status.StackFull report a w = (report, a, w)
  whole status.Trap report a w = (report, a, w)
  whole status.Undefined report a w = (report, a, w)
  whole status.Aborted report a w = (report, a, w)

  -- a first part of it makes the row of a fault of the writing
  pub part : (other : Status) (report : List ℕ) → IsAnswer q held rose other report
      → AppendedPart old new report → cut → IsAnswered q held rose old new cut status.WriteFault
  part other report a w fault = (fault, (other, report, a, w))

  -- the status for usage is answered only where the words ask for nothing
  pub usage_only : (s : Status) → IsAnswered q held rose old new cut s → s ≡ status.Usage → q ≡ None
  usage_only s a e =
      let row = subst (IsAnswered q held rose old new cut) e a in
      usage_row q held rose status.Usage (kind q held rose status.Usage row.0 row.1) refl

  -- the status for a fault of reading is answered only where such a fault rose
  pub read_fault : (s : Status) → IsAnswered q held rose old new cut s → s ≡ status.ReadFault → rose
  read_fault s a e =
      let row = subst (IsAnswered q held rose old new cut) e a in
      read_fault_row q held rose status.ReadFault
      (kind q held rose status.ReadFault row.0 row.1) refl

  -- the status for a refusal is answered only where the request may be refused
  pub refused_only : (s : Status) → IsAnswered q held rose old new cut s → s ≡ status.Refused
      → MayBeRefused q held
  refused_only s a e =
      let row = subst (IsAnswered q held rose old new cut) e a in
      refused_row q held rose status.Refused (kind q held rose status.Refused row.0 row.1) refl

  -- the status for a fault of writing is answered only where the writing was cut
  pub write_fault : (s : Status) → IsAnswered q held rose old new cut s → s ≡ status.WriteFault
      → cut
  write_fault s a e = (subst (IsAnswered q held rose old new cut) e a).0

  -- where the status is that for a fault of writing, the text that is written is the beginning of a report
  pub cut_off : (s : Status) → IsAnswered q held rose old new cut s → s ≡ status.WriteFault
      → IsCutOff q held rose old new
  cut_off s a e = (subst (IsAnswered q held rose old new cut) e a).1

  -- where memory lacked, nothing is written
  pub memory : (s : Status) → IsAnswered q held rose old new cut s → s ≡ status.Memory
      → Appended old new []
  memory s a e = subst (IsAnswered q held rose old new cut) e a

  -- words that ask nothing are answered with the usage, a lack of memory or a fault of writing
  pub usage_comes : (s : Status) → IsAnswered q held rose old new cut s → q ≡ None
      → IsOneOf s (status.Usage ∷ status.Memory ∷ status.WriteFault ∷ [])
  unfolding IsWhole
  usage_comes s a e = elim (split s a) [
    | inl m ↦ inr (inl m)
    | inr (inl w) ↦ inr (inr (inl w.0))
    | inr (inr row) ↦ inl (usage_comes_row q held rose s row.0 row.1 e)
  ]

  -- a request that is refused is answered so, or with a fault of reading or writing, or a lack of memory
  pub refused_comes : (s : Status) → IsAnswered q held rose old new cut s → IsRefused q held
      → IsOneOf s (status.Refused ∷ status.ReadFault ∷ status.Memory ∷ status.WriteFault ∷ [])
  unfolding IsWhole
  refused_comes s a out = elim (split s a) [
    | inl m ↦ inr (inr (inl m))
    | inr (inl w) ↦ inr (inr (inr (inl w.0)))
    | inr (inr row) ↦ elim (refused_comes_row q held rose s (kind q held rose s row.0 row.1) out)
        [ inl r ↦ inl r | inr f ↦ inr (inl f) ]
  ]

  -- what is unfit is refused, or answered with a fault of reading or writing, or a lack of memory
  pub unfit_comes : (s : Status) → IsAnswered q held rose old new cut s → IsUnfit q held
      → IsOneOf s (status.Refused ∷ status.ReadFault ∷ status.Memory ∷ status.WriteFault ∷ [])
  unfolding IsWhole
  unfit_comes s a out = elim (split s a) [
    | inl m ↦ inr (inr (inl m))
    | inr (inl w) ↦ inr (inr (inr (inl w.0)))
    | inr (inr row) ↦ elim (unfit_row q held rose s row.0 row.1 out)
        [ inl r ↦ inl r | inr f ↦ inr (inl f) ]
  ]

  -- the whole report was written, where no write failed and memory was not refused
  pub whole_of : (s : Status) → IsAnswered q held rose old new cut s → (cut → ⊥) → s ≢ status.Memory
      → (report : List ℕ) × IsAnswer q held rose s report × Appended old new report
  unfolding IsWhole
  whole_of s a c m = elim (split s a) [
    | inl none ↦ absurd (m none)
    | inr (inl w) ↦ absurd (c w.1)
    | inr (inr row) ↦ row
  ]

  -- the status for what C leaves undefined is answered only where an evaluation ended so
  pub undefined_only : (s : Status) → IsAnswered q held rose old new cut s → s ≡ status.Undefined
      → EvalEnds q held s
  undefined_only s a e =
      let row = subst (IsAnswered q held rose old new cut) e a in
      subst (EvalEnds q held) (sym e)
      (undefined_row q held rose status.Undefined row.0 row.1 refl)

  not_memory : (s : Status) → is_told s ≡ true → s ≡ status.Memory → ⊥
  unfolding is_told
  not_memory s t e = let none : is_told s ≡ false = ap is_told e in absurd (cc)

  not_cut : (s : Status) → is_told s ≡ true → s ≡ status.WriteFault → ⊥
  unfolding is_told
  not_cut s t e = let none : is_told s ≡ false = ap is_told e in absurd (cc)

  -- an end that is told is that of a request
  pub asked_end : (s : Status) → IsAnswered q held rose old new cut s → is_told s ≡ true
      → (x : Request) × (q ≡ Some x)
  unfolding IsWhole
  asked_end s a told = elim (split s a) [
    | inl none ↦ absurd (not_memory s told none)
    | inr (inl w) ↦ absurd (not_cut s told w.0)
    | inr (inr row) ↦ some_asked q held rose s row.0 row.1 told
  ]

  -- work whose end is told
  pub ends : (s : Status) → IsAnswered q held rose old new cut s → (x : Request) → q ≡ Some x
      → is_told s ≡ true → EndsAs held x s
  unfolding IsWhole
  ends s a x e told = elim (split s a) [
    | inl none ↦ absurd (not_memory s told none)
    | inr (inl w) ↦ absurd (not_cut s told w.0)
    | inr (inr row) ↦ ends_row q held rose s row.0 x row.1 e told
  ]

  -- the statuses that tell an end are these
  pub end_told : (s : Status) → IsOneOf s
      (status.Ended ∷ status.Budget ∷ status.StackFull ∷ status.Trap ∷ status.Undefined ∷ status.Aborted ∷ [])
      → is_told s ≡ true
  unfolding is_told
  end_told s (inl e) = ap is_told e
  end_told s (inr (inl e)) = ap is_told e
  end_told s (inr (inr (inl e))) = ap is_told e
  end_told s (inr (inr (inr (inl e)))) = ap is_told e
  end_told s (inr (inr (inr (inr (inl e))))) = ap is_told e
  end_told s (inr (inr (inr (inr (inr (inl e)))))) = ap is_told e
  end_told s (inr (inr (inr (inr (inr (inr none)))))) = absurd none

  eval_told : (s : Status)
      → IsOneOf s (status.Ended ∷ status.Budget ∷ status.StackFull ∷ status.Undefined ∷ status.Aborted ∷ [])
      → is_told s ≡ true
  unfolding is_told
  eval_told s (inl e) = ap is_told e
  eval_told s (inr (inl e)) = ap is_told e
  eval_told s (inr (inr (inl e))) = ap is_told e
  eval_told s (inr (inr (inr (inl e)))) = ap is_told e
  eval_told s (inr (inr (inr (inr (inl e))))) = ap is_told e
  eval_told s (inr (inr (inr (inr (inr none))))) = absurd none

  -- the status of an evaluation that ended is that of its end
  pub eval_ends : (s : Status) → IsAnswered q held rose old new cut s → (x : Request)
      → q ≡ Some x → x.work ≡ Evaluate
      → IsOneOf s (status.Ended ∷ status.Budget ∷ status.StackFull ∷ status.Undefined ∷ status.Aborted ∷ [])
      → EndsAs held x s
  eval_ends s a x e w one = ends s a x e (eval_told s one)

  -- what is made of a file
  pub made_ends : (s : Status) → IsAnswered q held rose old new cut s → (x : Request)
      → q ≡ Some x → s ≡ status.Ended → EndsAs held x s
  unfolding is_told
  made_ends s a x e is = ends s a x e (ap is_told is)

  run_told : (s : Status)
      → IsOneOf s (status.Ended ∷ status.Budget ∷ status.StackFull ∷ status.Trap ∷ status.Aborted ∷ [])
      → is_told s ≡ true
  unfolding is_told
  run_told s (inl e) = ap is_told e
  run_told s (inr (inl e)) = ap is_told e
  run_told s (inr (inr (inl e))) = ap is_told e
  run_told s (inr (inr (inr (inl e)))) = ap is_told e
  run_told s (inr (inr (inr (inr (inl e))))) = ap is_told e
  run_told s (inr (inr (inr (inr (inr none))))) = absurd none

  -- the status of a run that ended is that of its end
  pub run_ends : (s : Status) → IsAnswered q held rose old new cut s → (x : Request)
      → q ≡ Some x → x.work ≡ Run
      → IsOneOf s (status.Ended ∷ status.Budget ∷ status.StackFull ∷ status.Trap ∷ status.Aborted ∷ [])
      → EndsAs held x s
  run_ends s a x e w one = ends s a x e (run_told s one)

  -- a text's run whose end is told
  pub text_ends : (s : Status) → IsAnswered q held rose old new cut s → (x : Request)
      → q ≡ Some x → x.work ≡ Run → x.form ≡ form.Source
      → IsOneOf s (status.Ended ∷ status.Budget ∷ status.StackFull ∷ status.Trap ∷ status.Aborted ∷ [])
      → RunEndsAs held x s
  text_ends s a x e w f one =
      let e = ends s a x e (run_told s one) in
      run_ends_as held x e.bytes e.input s e.report e.holds e.holds_input
      (subst (λ (k : FileForm). IsWorked Run k (settings_of x) e.bytes e.input s e.report) f
      (subst (λ (k : Work). IsWorked k x.form (settings_of x) e.bytes e.input s e.report) w e.worked))

  -- a text's run that ended with a result
  pub result_means : (s : Status) → IsAnswered q held rose old new cut s → (x : Request) → q ≡ Some x → x.work ≡ Run
      → x.form ≡ form.Source → s ≡ status.Ended → ResultMeans held x s old new
  unfolding is_told
  result_means s a x e w f ended =
      let row = subst (IsAnswered q held rose old new cut) ended a in
      let end = ends_row_with q held rose status.Ended row.0 x row.1 e refl in
      let d = end.0 in
      subst (λ (k : Status). ResultMeans held x k old new) (sym ended)
      (compiled.result_means held x d.bytes d.input status.Ended d.report old new d.holds d.holds_input
      (subst (λ (k : FileForm). IsWorked Run k (settings_of x) d.bytes d.input status.Ended d.report) f
      (subst (λ (k : Work). IsWorked k x.form (settings_of x) d.bytes d.input status.Ended d.report) w d.worked)) refl
      (subst (Appended old new) (sym end.1) row.2))
