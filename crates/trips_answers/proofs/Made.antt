-- Images that are made of the files of `four` one after another, and files that are read one after another.
use Rattle.std.proofs.Common.{◌≡◌, ℕ, ◌+◌, ◌≤◌, List, [], ◌∷◌, ◌++◌, Option, Result, Ok, Err, IfOk, inl, inr, refl}
use Rattle.std.proofs.Common.{◌∙◌, ap, subst, arith}
use Rattle.std.proofs.lemmas.List.{append_assoc}
use Rattle.trips_isa.specs.declared.block.Image.{Image}
use Rattle.trips_outside.specs.Outside.{Rose}
use Rattle.trips_requests.specs.declared.answer.Answer.{Answer}
use Rattle.trips_requests.specs.declared.loading.Loaded.{Loaded}
use Rattle.trips_requests.specs.declared.loading.Loaded.TheVariants.{Fault, TooLarge, Bytes}
use Rattle.trips_requests.specs.declared.status.Status.TheVariants as status
use Rattle.trips_requests.specs.Table.{IsRead}
use Rattle.trips_requests.specs.Texts.{IsFixed, read_fault_text, too_large_text}
use Rattle.trips_four_answers.specs.Runs.{IsFourRun}
use Rattle.trips_answers.specs.Asks.{limit_of}
use Rattle.trips_answers.specs.declared.forms.FileForm.{FileForm}
use Rattle.trips_answers.specs.declared.forms.Settings.{Settings}
use Rattle.trips_answers.specs.declared.four_programs.NoImage.{NoImage}
use Rattle.trips_answers.specs.declared.four_programs.NoImage.TheVariants as reason
use Rattle.trips_answers.specs.Fours.{Further, IsFilesDone, IsFourDone, IsImageBy, Program}
use Rattle.trips_answers.specs.inside.Made.{IsMade, IsRestDone, IsToldAt}
use Rattle.trips_answers.proofs.Fours.{four_last}

module _ {E : Type 0} (settings : Settings) (input : List ℕ) (number : ℕ) (images : List Image) (how : FileForm)
    (bytes : List ℕ) where
  -- behind one image more
  pub made_more : (image : Image) (ps : List Program) (r : Result Answer E) → IsImageBy how settings bytes image
      → IfOk r (λ a. IsRestDone settings (number + 1) (images ++ image ∷ []) ps input a.status a.report.items)
      → IfOk r (λ a. IsRestDone settings number images ((how, bytes) ∷ ps) input a.status a.report.items)
  made_more image ps (Err e) is d = tt
  made_more image ps (Ok a) is (inl out) = inl (out.0, inr (image, is, out.1), out.2)
  made_more image ps (Ok a) is (inr run) = inr (
    image ∷ run.0,
    (is, run.1),
    subst (λ (xs : List Image). IsFourRun xs input settings.seed settings.most settings.show.cycles a.status
        a.report.items) (append_assoc images (image ∷ []) run.0) run.2,
  )

  -- behind the last
  pub made_all : (image : Image) (r : Result Answer E) → IsImageBy how settings bytes image
      → IfOk r (λ a. IsFourRun (images ++ image ∷ []) input settings.seed settings.most settings.show.cycles a.status
      a.report.items)
      → IfOk r (λ a. IsRestDone settings number images ((how, bytes) ∷ []) input a.status a.report.items)
  made_all image (Err e) is run = tt
  made_all image (Ok a) is run = inr (image ∷ [], (is, tt), run)

  -- where none is made
  pub not_made : (why : NoImage) (ps : List Program) (r : Result Answer E) → IsMade how settings bytes (Err why)
      → IfOk r (λ a. IsToldAt number why a.status a.report.items)
      → IfOk r (λ a. IsRestDone settings number images ((how, bytes) ∷ ps) input a.status a.report.items)
  not_made why ps (Err e) bad told = tt
  not_made (reason.Refused report) ps (Ok a) bad told =
      inl (a.report.items, inl (report.items, bad, told.1), (told.0, refl))
  not_made reason.Memory ps (Ok a) bad told = absurd told

-- reading --------------------------------------------------------------------------------------

-- a count that rose in the first part of a time rose in the whole
read_first : (told : Option (List ℕ)) (old now new limit : ℕ) (loaded : Loaded) → now ≤ new
    → IsRead told (Rose old now) limit loaded → IsRead told (Rose old new) limit loaded
read_first told old now new limit Fault le h = omega arith
read_first told old now new limit TooLarge le h = h
read_first told old now new limit (Bytes bytes) le h = h

module _ {E : Type 0} (settings : Settings) (input : List ℕ) (how : FileForm) (told : Option (List ℕ))
    (fs : List Further) (ps : List Program) (r : Result Answer E) where
  -- a further file that was not read
  pub not_read : (rose : Type 0) → IsRead told rose (limit_of how) Fault
      → IfOk r (λ a. IsFixed status.ReadFault read_fault_text a.status a.report.items)
      → IfOk r (λ a. IsFourDone ((how, told) ∷ fs) rose settings ps input a.status a.report.items)
  not_read rose h d = by r d
    where
      by : (x : Result Answer E) → IfOk x (λ a. IsFixed status.ReadFault read_fault_text a.status a.report.items)
          → IfOk x (λ a. IsFourDone ((how, told) ∷ fs) rose settings ps input a.status a.report.items)
      by (Err e) f = tt
      by (Ok a) f = (Fault, h, f)

  -- one that has too many bytes
  pub not_small : (rose : Type 0) → IsRead told rose (limit_of how) TooLarge
      → IfOk r (λ a. IsFixed status.Refused too_large_text a.status a.report.items)
      → IfOk r (λ a. IsFourDone ((how, told) ∷ fs) rose settings ps input a.status a.report.items)
  not_small rose h d = by r d
    where
      by : (x : Result Answer E) → IfOk x (λ a. IsFixed status.Refused too_large_text a.status a.report.items)
          → IfOk x (λ a. IsFourDone ((how, told) ∷ fs) rose settings ps input a.status a.report.items)
      by (Err e) f = tt
      by (Ok a) f = (TooLarge, h, f)

  -- one that was read, and what is answered behind it
  pub read_more : (old now new : ℕ) (bytes : List ℕ) → old ≤ now → now ≤ new
      → IsRead told (Rose old now) (limit_of how) (Bytes bytes)
      → IfOk r (λ a. IsFourDone fs (Rose now new) settings (ps ++ (how, bytes) ∷ []) input a.status a.report.items)
      → IfOk r (λ a. IsFourDone ((how, told) ∷ fs) (Rose old new) settings ps input a.status a.report.items)
  read_more old now new bytes le next h d = by r d
    where
      by : (x : Result Answer E)
          → IfOk x (λ a. IsFourDone fs (Rose now new) settings (ps ++ (how, bytes) ∷ []) input a.status
          a.report.items)
          → IfOk x (λ a. IsFourDone ((how, told) ∷ fs) (Rose old new) settings ps input a.status a.report.items)
      by (Err e) f = tt
      by (Ok a) f = (
        Bytes bytes,
        read_first told old now new (limit_of how) (Bytes bytes) next h,
        four_last settings input a.status a.report.items old now new le fs (ps ++ (how, bytes) ∷ []) f,
      )

-- a further file that was read, as the code has it, and what is answered behind it
pub bytes_more : {E : Type 0} (settings : Settings) (input : List ℕ) (how form : FileForm) (told : Option (List ℕ))
    (fs seen : List Further) (ps : List Program) (r : Result Answer E) (old now new limit : ℕ) (loaded : Loaded)
    (bytes : List ℕ) → form ≡ how → limit ≡ limit_of form → loaded ≡ Bytes bytes → seen ≡ fs → old ≤ now → now ≤ new
    → IsRead told (Rose old now) limit loaded
    → IfOk r (λ a. IsFourDone seen (Rose now new) settings (ps ++ (form, bytes) ∷ []) input a.status a.report.items)
    → IfOk r (λ a. IsFourDone ((how, told) ∷ fs) (Rose old new) settings ps input a.status a.report.items)
bytes_more settings input how form told fs seen ps r old now new limit loaded bytes is within at same le next h d =
    read_more settings input how told fs ps r old now new bytes le next
    (subst (λ (n : ℕ). IsRead told (Rose old now) n (Bytes bytes)) (within ∙ ap limit_of is)
    (subst (λ (l : Loaded). IsRead told (Rose old now) limit l) at h))
    (subst (λ (f : FileForm). IfOk r (λ a. IsFourDone fs (Rose now new) settings (ps ++ (f, bytes) ∷ []) input
    a.status a.report.items)) is
    (subst (λ (xs : List Further). IfOk r (λ a. IsFourDone xs (Rose now new) settings (ps ++ (form, bytes) ∷ []) input
    a.status a.report.items)) same d))

-- the last of them
pub bytes_last : {E : Type 0} (settings : Settings) (input : List ℕ) (how form : FileForm) (told : Option (List ℕ))
    (ps : List Program) (r : Result Answer E) (old now limit : ℕ) (loaded : Loaded) (bytes : List ℕ)
    → form ≡ how → limit ≡ limit_of form → loaded ≡ Bytes bytes → old ≤ now
    → IsRead told (Rose old now) limit loaded
    → IfOk r (λ a. IsFilesDone settings (ps ++ (form, bytes) ∷ []) input a.status a.report.items)
    → IfOk r (λ a. IsFourDone ((how, told) ∷ []) (Rose old now) settings ps input a.status a.report.items)
bytes_last settings input how form told ps r old now limit loaded bytes is within at le h d =
    let next : now ≤ now = omega arith in
    bytes_more settings input how form told [] [] ps r old now now limit loaded bytes is within at refl le next h d
