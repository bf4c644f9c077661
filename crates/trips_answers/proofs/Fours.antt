-- What `four` answers, apart: that its work is done or its first file refused, or a fault of a further file.
use Rattle.std.proofs.Common.{◌≡◌, ℕ, ◌+◌, ◌≤◌, List, [], ◌∷◌, ◌++◌, Option, ◌⊎◌, inl, inr, refl, sym, subst, arith}
use Rattle.std.proofs.lemmas.List.{append-nil, append_assoc}
use Rattle.trips_outside.specs.Outside.{Holds, Rose}
use Rattle.trips_requests.specs.declared.loading.Loaded.{Loaded}
use Rattle.trips_requests.specs.declared.loading.Loaded.TheVariants.{Fault, TooLarge, Bytes}
use Rattle.trips_requests.specs.declared.status.Status.{Status}
use Rattle.trips_requests.specs.declared.status.Status.TheVariants as status
use Rattle.trips_requests.specs.Table.{IsRead, AfterReading}
use Rattle.trips_requests.specs.Texts.{IsFixed, read_fault_text, too_large_text}
use Rattle.trips_answers.specs.Asks.{limit_of}
use Rattle.trips_answers.specs.Work.{Four}
use Rattle.trips_answers.specs.declared.forms.FileForm.{FileForm}
use Rattle.trips_answers.specs.declared.forms.Settings.{Settings}
use Rattle.trips_answers.specs.Fours.{Further, IsFilesDone, IsFourDone, IsFurtherFault, IsLargeAmong, IsRefusedAmong}
use Rattle.trips_answers.specs.Fours.{IsRefusedAt, IsRefusedIn, Program}
use Rattle.trips_answers.specs.Worked.{IsDone}

-- a count that rose in the last part of a time rose in the whole
pub rose_last : (old now new : ℕ) → old ≤ now → Rose now new → Rose old new
rose_last old now new le up = omega arith

-- so a file that was read in its last part was read in the whole
pub read_last : (told : Option (List ℕ)) (old now new limit : ℕ) (loaded : Loaded) → old ≤ now
    → IsRead told (Rose now new) limit loaded → IsRead told (Rose old new) limit loaded
read_last told old now new limit Fault le h = rose_last old now new le h
read_last told old now new limit TooLarge le h = h
read_last told old now new limit (Bytes bytes) le h = h

-- a file that was read is the one that is held, as far as that is told
pub record IsHeldBy (f : Further) (p : Program) : Type 0 where
  pub form : f.0 ≡ p.0
  pub holds : Holds f.1 p.1

-- so are some
abbrev pub AreHeldBy : List Further → List Program → Type 0
AreHeldBy [] [] = Unit {0}
AreHeldBy (f ∷ fs) (p ∷ ps) = IsHeldBy f p × AreHeldBy fs ps
AreHeldBy fs ps = ⊥

module _ (settings : Settings) (input : List ℕ) (s : Status) (report : List ℕ) where
  -- files that were read behind others, with what is then answered
  record AllRead (fs : List Further) (ps : List Program) : Type 0 where
    pub files : List Program
    pub held : AreHeldBy fs files
    pub done : IsFilesDone settings (ps ++ files) input s report

  -- one that was not read
  abbrev NotRead : List Further → Type 0 → Type 0
  NotRead fs rose = (rose × IsFixed status.ReadFault read_fault_text s report)
      ⊎ (IsLargeAmong fs × IsFixed status.Refused too_large_text s report)

  -- a file is read, and others behind it
  one_read : (rose : Type 0) (f : Further) (fs : List Further) (ps : List Program)
      → ((bytes : List ℕ) → IsFourDone fs rose settings (ps ++ (f.0, bytes) ∷ []) input s report
      → AllRead fs (ps ++ (f.0, bytes) ∷ []) ⊎ NotRead fs rose)
      → (loaded : Loaded) → IsRead f.1 rose (limit_of f.0) loaded
      → AfterReading loaded
      (λ bytes. IsFourDone fs rose settings (ps ++ (f.0, bytes) ∷ []) input s report) s report
      → AllRead (f ∷ fs) ps ⊎ NotRead (f ∷ fs) rose
  one_read rose f fs ps rest Fault h a = inr (inl (h, a))
  one_read rose f fs ps rest TooLarge h a = inr (inr (inl h, a))
  one_read rose f fs ps rest (Bytes bytes) h a = more (rest bytes a)
    where
      more : AllRead fs (ps ++ (f.0, bytes) ∷ []) ⊎ NotRead fs rose → AllRead (f ∷ fs) ps ⊎ NotRead (f ∷ fs) rose
      more (inl x) = inl (record {
        files = (f.0, bytes) ∷ x.files;
        held = (record { form = refl; holds = h.0 }, x.held);
        done = subst (λ (xs : List Program). IsFilesDone settings xs input s report)
            (append_assoc ps ((f.0, bytes) ∷ []) x.files) x.done;
      })
      more (inr (inl u)) = inr (inl u)
      more (inr (inr l)) = inr (inr (inr l.0, l.1))

  all_read : (rose : Type 0) (fs : List Further) (ps : List Program) → IsFourDone fs rose settings ps input s report
      → AllRead fs ps ⊎ NotRead fs rose
  all_read rose [] ps d = inl (record {
    files = [];
    held = tt;
    done = subst (λ (xs : List Program). IsFilesDone settings xs input s report) (sym (append-nil ps)) d;
  })
  all_read rose (f ∷ fs) ps d =
      one_read rose f fs ps (λ bytes a. all_read rose fs (ps ++ (f.0, bytes) ∷ []) a) d.0 d.1 d.2

  -- the lowest refusal among files that were read is one of those that are held
  among : (text : List ℕ) (fs : List Further) (ps : List Program) (number : ℕ) → AreHeldBy fs ps
      → IsRefusedIn settings number ps text → IsRefusedAmong number fs text
  among text [] [] number h r = absurd r
  among text (f ∷ fs) (p ∷ ps) number h (inl r) = inl (
    p.1,
    h.0.holds,
    subst (λ (how : FileForm). IsRefusedAt number how p.1 text) (sym h.0.form) r,
  )
  among text (f ∷ fs) (p ∷ ps) number h (inr m) = inr (among text fs ps (number + 1) h.1 m.2)
  among text [] (p ∷ ps) number h r = absurd h
  among text (f ∷ fs) [] number h r = absurd h

  module _ (rose : Type 0) (fs : List Further) (how : FileForm) (bytes : List ℕ) where
    abbrev Part : Type 0
    Part = IsDone Four how settings bytes input s report ⊎ IsFurtherFault fs rose Four s report

    files_part : (x : AllRead fs ((how, bytes) ∷ [])) → IsFilesDone settings ((how, bytes) ∷ x.files) input s report
        → Part
    files_part x (inr run) = inl (inr (x.files, run.0, run.1, run.2))
    files_part x (inl out) = by out.1
      where
        by : IsRefusedIn settings 0 ((how, bytes) ∷ x.files) out.0 → Part
        by (inl at) = inl (inl (out.0, at, out.2))
        by (inr m) = inr (refl, inr (inr (out.0, among out.0 fs x.files 1 x.held m.2, out.2)))

    -- what is answered is that the work is done or its first file refused, or a fault of a further file
    pub four_part : IsFourDone fs rose settings ((how, bytes) ∷ []) input s report → Part
    four_part d = by (all_read rose fs ((how, bytes) ∷ []) d)
      where
        by : AllRead fs ((how, bytes) ∷ []) ⊎ NotRead fs rose → Part
        by (inl x) = files_part x x.done
        by (inr (inl u)) = inr (refl, inl u)
        by (inr (inr l)) = inr (refl, inr (inl l))

  -- what is answered behind a file, by what is answered behind its bytes
  after_so : (loaded : Loaded) (P Q : List ℕ → Type 0) → ((bytes : List ℕ) → P bytes → Q bytes)
      → AfterReading loaded P s report → AfterReading loaded Q s report
  after_so Fault P Q so a = a
  after_so TooLarge P Q so a = a
  after_so (Bytes bytes) P Q so a = so bytes a

  -- what is answered where a count rose in the last part of a time is answered where it rose in the whole
  pub four_last : (old now new : ℕ) → old ≤ now → (fs : List Further) (ps : List Program)
      → IsFourDone fs (Rose now new) settings ps input s report
      → IsFourDone fs (Rose old new) settings ps input s report
  four_last old now new le [] ps d = d
  four_last old now new le (f ∷ fs) ps d = (
    d.0,
    read_last f.1 old now new (limit_of f.0) d.0 le d.1,
    after_so d.0 (λ bytes. IsFourDone fs (Rose now new) settings (ps ++ (f.0, bytes) ∷ []) input s report)
        (λ bytes. IsFourDone fs (Rose old new) settings (ps ++ (f.0, bytes) ∷ []) input s report)
        (λ bytes a. four_last old now new le fs (ps ++ (f.0, bytes) ∷ []) a) d.2,
  )
