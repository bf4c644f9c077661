-- What `four` answers where its further files are told, and nothing fails.
use Rattle.std.proofs.Common.{◌≡◌, ◌≢◌, ℕ, ◌+◌, ◌≤◌, List, [], ◌∷◌, ◌++◌, Option, Some, inl, inr, length, sym, ◌∙◌}
use Rattle.std.proofs.Common.{subst}
use Rattle.std.proofs.lemmas.List.{append-nil, append_assoc}
use Rattle.trips_isa.specs.declared.block.Image.{Image}
use Rattle.trips_outside.specs.Outside.{Appended}
use Rattle.trips_report.specs.declared.show.Show.{Show}
use Rattle.trips_requests.specs.declared.loading.Loaded.{Loaded}
use Rattle.trips_requests.specs.declared.status.Status.{Status}
use Rattle.trips_requests.specs.declared.status.Status.TheVariants as status
use Rattle.trips_requests.specs.Table.{AfterReading, Wrote}
use Rattle.trips_four_answers.specs.Runs.{IsFourRun}
use Rattle.trips_answers.specs.declared.forms.FileForm.{FileForm}
use Rattle.trips_answers.specs.declared.forms.Settings.{Settings}
use Rattle.trips_answers.specs.Work.{Four}
use Rattle.trips_answers.specs.Request.{Request}
use Rattle.trips_answers.specs.Settings.{settings_with}
use Rattle.trips_answers.specs.Asks.{AsksFor, limit_of}
use Rattle.trips_answers.specs.Fours.{AreImagesBy, AreTold, Further, IsFilesDone, IsFourDone, IsRefusedIn, Program}
use Rattle.trips_answers.specs.Fours.{further_of}
use Rattle.trips_answers.specs.Done.{CanBeRun}
use Rattle.trips_answers.specs.Refused.{IsLowestRefused}
use Rattle.trips_answers.specs.Table.{IsAnswered}
use Rattle.trips_answers.proofs.Causes.{whole_of}
use Rattle.trips_answers.proofs.Complete.{complete}
use Rattle.trips_answers.proofs.Exact.{no_program_can, no_program_image, program_once}
use Rattle.trips_answers.proofs.ReadFiles.{file_read}

module _ (rose : Type 0) (settings : Settings) (input : List ℕ) (s : Status) (report : List ℕ) where
  -- what is answered behind a further file that is told
  behind : (f : Further) (fs : List Further) (p : Program) (ps : List Program) → f.0 ≡ p.0 → f.1 ≡ Some p.1
      → length p.1 ≤ limit_of p.0 → (rose → ⊥) → IsFourDone (f ∷ fs) rose settings ps input s report
      → IsFourDone fs rose settings (ps ++ p ∷ []) input s report
  behind f fs p ps form told few r d =
      let within = subst (λ (how : FileForm). length p.1 ≤ limit_of how) (sym form) few in
      let is = file_read f.1 rose (limit_of f.0) d.0 p.1 d.1 told within r in
      let here = subst (λ (x : Loaded). AfterReading x
      (λ bytes. IsFourDone fs rose settings (ps ++ (f.0, bytes) ∷ []) input s report) s report) is d.2 in
      subst (λ (how : FileForm). IsFourDone fs rose settings (ps ++ (how, p.1) ∷ []) input s report) form here

  -- the work is done with all files, of which the further ones are told
  files_told : (fs : List Further) (others ps : List Program) → AreTold fs others → (rose → ⊥)
      → IsFourDone fs rose settings ps input s report → IsFilesDone settings (ps ++ others) input s report
  files_told [] [] ps told r d =
      subst (λ (xs : List Program). IsFilesDone settings xs input s report) (sym (append-nil ps)) d
  files_told (f ∷ fs) (p ∷ others) ps told r d =
      subst (λ (xs : List Program). IsFilesDone settings xs input s report) (append_assoc ps (p ∷ []) others)
      (files_told fs others (ps ++ p ∷ []) told.1 r
      (behind f fs p ps told.0.form told.0.told told.0.few r d))
  files_told [] (p ∷ others) ps told r d = absurd told
  files_told (f ∷ fs) [] ps told r d = absurd told

module _ (settings : Settings) where
  -- the refusal of the lowest file is the one that is told
  lowest_is : (number : ℕ) (ps : List Program) (text out : List ℕ) → IsLowestRefused number ps text
      → IsRefusedIn settings number ps out → out ≡ text
  lowest_is number [] text out x y = absurd x
  lowest_is number (p ∷ ps) text out (inl x) (inl y) = program_once number p.0 p.1 out text y x
  lowest_is number (p ∷ ps) text out (inl x) (inr y) =
      absurd (no_program_image p.0 settings p.1 x.0 y.0 x.1 y.1)
  lowest_is number (p ∷ ps) text out (inr x) (inl y) = absurd (no_program_can p.0 p.1 y.0 y.1 x.0)
  lowest_is number (p ∷ ps) text out (inr x) (inr y) = lowest_is (number + 1) ps text out x.1 y.2

  -- images are not made of all of them
  no_images : (number : ℕ) (ps : List Program) (text : List ℕ) (images : List Image)
      → IsLowestRefused number ps text → AreImagesBy settings ps images → ⊥
  no_images number [] text images x are = x
  no_images number (p ∷ ps) text [] x are = are
  no_images number (p ∷ ps) text (image ∷ images) (inl x) are =
      no_program_image p.0 settings p.1 x.0 image x.1 are.0
  no_images number (p ∷ ps) text (image ∷ images) (inr x) are =
      no_images (number + 1) ps text images x.1 are.1

  -- nor is one refused of files that can be run
  none_refused : (number : ℕ) (ps : List Program) (out : List ℕ) → CanBeRun ps
      → IsRefusedIn settings number ps out → ⊥
  none_refused number [] out can x = x
  none_refused number (p ∷ ps) out can (inl x) = no_program_can p.0 p.1 x.0 x.1 can.0
  none_refused number (p ∷ ps) out can (inr x) = none_refused (number + 1) ps out can.1 x.2

  module _ (ps : List Program) (input : List ℕ) (s : Status) (report : List ℕ) where
    -- the images of files that can be run are run
    images_run : IsFilesDone settings ps input s report → CanBeRun ps → (images : List Image)
        × AreImagesBy settings ps images
        × IsFourRun images input settings.seed settings.most settings.show.cycles s report
    images_run (inl out) can = absurd (none_refused 0 ps out.0 can out.1)
    images_run (inr run) can = run

    -- and others are refused
    lowest_told : (text : List ℕ) → IsFilesDone settings ps input s report → IsLowestRefused 0 ps text
        → (s ≡ status.Refused) × (report ≡ text)
    lowest_told text (inl out) bad = (out.2.0, out.2.1 ∙ lowest_is 0 ps text out.0 bad out.1)
    lowest_told text (inr run) bad = absurd (no_images 0 ps text run.0 bad run.1)

module _ (held : List ℕ → Option (List ℕ)) (rose : Type 0) (old new : Option (List ℕ))
    (cut : Type 0) (q : Option Request) (s : Status) (a : IsAnswered q held rose old new cut s)
    (how : FileForm) (most : ℕ) (show : Show) (bytes input : List ℕ) (others : List Program)
    (asks : AsksFor q held Four how most show bytes input) (told : AreTold (further_of held asks.q) others)
    (r : rose → ⊥) (c : cut → ⊥) (m : s ≢ status.Memory) where
  -- the work is done with the four files, and the report is written
  files_done : (report : List ℕ)
      × IsFilesDone (settings_with asks.q most show) ((how, bytes) ∷ others) input s report × Appended old new report
  files_done =
      let row = whole_of held rose old new cut q s a c m in
      let done = complete q held rose s row.0 row.1 r Four how most show bytes input asks in (
        row.0,
        files_told rose (settings_with asks.q most show) input s row.0 (further_of held asks.q) others
            ((how, bytes) ∷ []) told r done,
        row.2,
      )

  -- files that can be run are run on one grid
  pub runs : CanBeRun ((how, bytes) ∷ others) → (images : List Image)
      × AreImagesBy (settings_with asks.q most show) ((how, bytes) ∷ others) images
      × Wrote old new (IsFourRun images input asks.q.seed most show.cycles s)
  runs can =
      let run = images_run (settings_with asks.q most show) ((how, bytes) ∷ others) input s files_done.0 files_done.1
      can in
      (run.0, run.1, (files_done.0, run.2, files_done.2))

  -- the lowest that cannot is refused
  pub refusal : (text : List ℕ) → IsLowestRefused 0 ((how, bytes) ∷ others) text
      → (s ≡ status.Refused) × Appended old new text
  refusal text bad =
      let out = lowest_told (settings_with asks.q most show) ((how, bytes) ∷ others) input s files_done.0 text
      files_done.1 bad in
      (out.0, subst (Appended old new) out.1 files_done.2)
