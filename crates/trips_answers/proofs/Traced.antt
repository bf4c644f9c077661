-- What is answered behind the input: of `verify` also what the trace's file comes to.
use Rattle.std.proofs.Common.{◌≡◌, ℕ, ◌≤◌, List, [], ◌∷◌, Option, ◌⊎◌, inl, inr, refl}
use Rattle.trips_isa.specs.declared.block.Image.{Image}
use Rattle.trips_outside.specs.Outside.{Holds, Rose}
use Rattle.trips_answers.specs.Work.{Work}
use Rattle.trips_answers.specs.Work.{Run, Evaluate, Compile, Listing, Trap}
use Rattle.trips_answers.specs.Work.{Assemble, Disassemble, Check, Draw, Explain, Record, Verify, Save, Four}
use Rattle.trips_requests.specs.declared.status.Status.{Status}
use Rattle.trips_requests.specs.declared.status.Status.TheVariants as status
use Rattle.trips_requests.specs.Texts.{IsFixed, read_fault_text}
use Rattle.trips_trace_answers.specs.TraceAnswers.{HoldsImage, IsRefusedImage, IsVerdict, IsVerified}
use Rattle.trips_trace_answers.specs.TraceReports.{trace_text}
use Rattle.trips_answers.specs.declared.forms.FileForm.{FileForm}
use Rattle.trips_answers.specs.declared.forms.Settings.{Settings}
use Rattle.trips_answers.specs.Traced.{IsTraceFault}
use Rattle.trips_answers.specs.Worked.{IsDone, IsDoneBehind}
use Rattle.trips_answers.specs.Fours.{Further, IsFurtherFault}
use Rattle.trips_answers.proofs.Fours.{four_last, four_part, rose_last}

module _ (told : Option (List ℕ)) (rose : Type 0) (how : FileForm) (settings : Settings) (bytes input : List ℕ)
    (s : Status) (report : List ℕ) where
  abbrev Part : Type 0
  Part = IsDone Verify how settings bytes input s report ⊎ IsTraceFault told rose Verify bytes input s report

  of_trace : (image : Image) → HoldsImage bytes image → (trace : List ℕ) → Holds told trace
      → IsVerdict image input trace s report → Part
  of_trace image is trace held (inl v) = inl (inr (trace, (image, is, v.0, v.1, v.2, v.3)))
  of_trace image is trace held (inr f) =
      inr (refl, inr (trace, trace_text f.0, held, (image, is, f.0, f.1, refl), f.2))

  of_file : (image : Image) → HoldsImage bytes image
      → ((trace : List ℕ) × Holds told trace × IsVerdict image input trace s report)
      ⊎ (rose × IsFixed status.ReadFault read_fault_text s report) → Part
  of_file image is (inl t) = of_trace image is t.0 t.1 t.2
  of_file image is (inr u) = inr (refl, inl u)

  verified_part : IsRefusedImage bytes s report ⊎ IsVerified bytes input told rose s report → Part
  verified_part (inl out) = inl (inl out)
  verified_part (inr v) = of_file v.0 v.1 v.2

-- what is answered is that the work is done or refused, or a fault of the trace's file, or of a further one of `four`
pub part : (told : Option (List ℕ)) (fs : List Further) (rose : Type 0) (work : Work) (how : FileForm)
    (settings : Settings) (bytes input : List ℕ) (s : Status) (report : List ℕ)
    → IsDoneBehind told fs rose work how settings bytes input s report
    → IsDone work how settings bytes input s report
    ⊎ (IsTraceFault told rose work bytes input s report ⊎ IsFurtherFault fs rose work s report)
part told fs rose Verify how settings bytes input s report d =
    elim (verified_part told rose how settings bytes input s report d) [ inl w ↦ inl w | inr t ↦ inr (inl t) ]
part told fs rose Four how settings bytes input s report d =
    elim (four_part settings input s report rose fs how bytes d) [ inl w ↦ inl w | inr f ↦ inr (inr f) ]
part told fs rose Run how settings bytes input s report d = inl d
part told fs rose Evaluate how settings bytes input s report d = inl d
part told fs rose Compile how settings bytes input s report d = inl d
part told fs rose Listing how settings bytes input s report d = inl d
part told fs rose Assemble how settings bytes input s report d = inl d
part told fs rose Disassemble how settings bytes input s report d = inl d
part told fs rose Check how settings bytes input s report d = inl d
part told fs rose (Explain file) how settings bytes input s report d = inl d
part told fs rose (Trap file) how settings bytes input s report d = inl d
part told fs rose Record how settings bytes input s report d = inl d
part told fs rose Save how settings bytes input s report d = inl d
part told fs rose Draw how settings bytes input s report d = inl d

verified_last : (told : Option (List ℕ)) (old now new : ℕ) (bytes input : List ℕ) (s : Status) (report : List ℕ)
    → old ≤ now → IsRefusedImage bytes s report ⊎ IsVerified bytes input told (Rose now new) s report
    → IsRefusedImage bytes s report ⊎ IsVerified bytes input told (Rose old new) s report
verified_last told old now new bytes input s report le (inl out) = inl out
verified_last told old now new bytes input s report le (inr v) = inr (v.0, v.1, go v.2)
  where
    go : ((trace : List ℕ) × Holds told trace × IsVerdict v.0 input trace s report)
        ⊎ (Rose now new × IsFixed status.ReadFault read_fault_text s report)
        → ((trace : List ℕ) × Holds told trace × IsVerdict v.0 input trace s report)
        ⊎ (Rose old new × IsFixed status.ReadFault read_fault_text s report)
    go (inl t) = inl t
    go (inr u) = inr (rose_last old now new le u.0, u.1)

-- what is answered where a count rose in the last part of a time is answered where it rose in the whole
pub last : (told : Option (List ℕ)) (fs : List Further) (old now new : ℕ) (work : Work) (how : FileForm)
    (settings : Settings) (bytes input : List ℕ) (s : Status) (report : List ℕ) → old ≤ now
    → IsDoneBehind told fs (Rose now new) work how settings bytes input s report
    → IsDoneBehind told fs (Rose old new) work how settings bytes input s report
last told fs old now new Verify how settings bytes input s report le d =
    verified_last told old now new bytes input s report le d
last told fs old now new Four how settings bytes input s report le d =
    four_last settings input s report old now new le fs ((how, bytes) ∷ []) d
last told fs old now new Run how settings bytes input s report le d = d
last told fs old now new Evaluate how settings bytes input s report le d = d
last told fs old now new Compile how settings bytes input s report le d = d
last told fs old now new Listing how settings bytes input s report le d = d
last told fs old now new Assemble how settings bytes input s report le d = d
last told fs old now new Disassemble how settings bytes input s report le d = d
last told fs old now new Check how settings bytes input s report le d = d
last told fs old now new (Explain file) how settings bytes input s report le d = d
last told fs old now new (Trap file) how settings bytes input s report le d = d
last told fs old now new Record how settings bytes input s report le d = d
last told fs old now new Save how settings bytes input s report le d = d
last told fs old now new Draw how settings bytes input s report le d = d

-- work that reads no further file is answered as it is done
pub other : (told : Option (List ℕ)) (fs : List Further) (rose : Type 0) (work : Work) (how : FileForm)
    (settings : Settings) (bytes input : List ℕ) (s : Status) (report : List ℕ) → (work ≡ Verify → ⊥)
    → (work ≡ Four → ⊥) → IsDone work how settings bytes input s report
    → IsDoneBehind told fs rose work how settings bytes input s report
other told fs rose Verify how settings bytes input s report n f d = absurd (n refl)
other told fs rose Four how settings bytes input s report n f d = absurd (f refl)
other told fs rose Run how settings bytes input s report n f d = d
other told fs rose Evaluate how settings bytes input s report n f d = d
other told fs rose Compile how settings bytes input s report n f d = d
other told fs rose Listing how settings bytes input s report n f d = d
other told fs rose Assemble how settings bytes input s report n f d = d
other told fs rose Disassemble how settings bytes input s report n f d = d
other told fs rose Check how settings bytes input s report n f d = d
other told fs rose (Explain file) how settings bytes input s report n f d = d
other told fs rose (Trap file) how settings bytes input s report n f d = d
other told fs rose Record how settings bytes input s report n f d = d
other told fs rose Save how settings bytes input s report n f d = d
other told fs rose Draw how settings bytes input s report n f d = d
