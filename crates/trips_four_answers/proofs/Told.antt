-- Four programs that have begun, have run to their ends and are told.
use Rattle.std.proofs.Common.{◌≡◌, ℕ, suc, ◌+◌, ◌<◌, ◌≤◌, Bool, List, [], ◌∷◌, ◌++◌, Some, length, slice_get, refl}
use Rattle.std.proofs.Common.{ap}
use Rattle.std.proofs.Common.{ap₂, ◌∙◌, subst, arith}
use Rattle.trips_isa.specs.declared.block.Image.{Image}
use Rattle.trips_isa.specs.declared.run.Ending.{Ending}
use Rattle.operand_net.specs.Seeded.{generator}
use Rattle.operand_net.specs.declared.weather.PcgWeather.{PcgWeather}
use Rattle.grid_machine.specs.Seeds.{IsAfter, next_hold}
use Rattle.smt_spec.specs.Programs.{Four}
use Rattle.smt_spec.specs.Parts.{Images}
use Rattle.smt_spec.specs.Cycles.{going}
use Rattle.smt_mode.specs.Fours.{AllOver, EndsAlone, Fours, HasRan}
use Rattle.smt_mode.specs.Starts.{begun_at, images_at}
use Rattle.smt_mode.specs.declared.four.Started.{Started}
use Rattle.trips_requests.specs.declared.status.Status.{Status}
use Rattle.trips_four_answers.specs.Report.{costs, counts_text}
use Rattle.trips_four_answers.specs.Runs.{AreStarted, IsFourRun}
use Rattle.trips_four_answers.specs.inside.Ended.{AreTold, HaveBegun}
use Rattle.trips_four_answers.proofs.Ends.{AllEnd, costs_same, ends_so, spent_same, status_same, texts_same}

-- what holds of any four things holds of a list of four
of_four : {A : Type 0} (P : List A → Type 0) → ((a b c d : A) → P (a ∷ b ∷ c ∷ d ∷ [])) → (xs : List A)
    → length xs ≡ 4 → P xs
of_four P h (a ∷ b ∷ c ∷ d ∷ []) e = h a b c d
of_four P h [] e = absurd (omega (arith, e))
of_four P h (a ∷ []) e = absurd (omega (arith, e))
of_four P h (a ∷ b ∷ []) e = absurd (omega (arith, e))
of_four P h (a ∷ b ∷ c ∷ []) e = absurd (omega (arith, e))
of_four P h (a ∷ b ∷ c ∷ d ∷ x ∷ xs) e = absurd (omega (arith, e))

-- as many programs are started as there are images
as_many : (input : List ℕ) (seed : ℕ) (images : List Image) (ss : List Started) → AreStarted input seed images ss
    → length ss ≡ length images
as_many input seed [] [] h = refl
as_many input seed (i ∷ is) (s ∷ ss) h = ap suc (as_many input seed is ss h.1)
as_many input seed [] (s ∷ ss) h = absurd h
as_many input seed (i ∷ is) [] h = absurd h

module _ (input : List ℕ) (seed most : ℕ) (v w : Fours PcgWeather) (over : AllOver w)
    (ran : HasRan next_hold IsAfter v.images v.budget v.four w.four) (images_are : w.images ≡ v.images)
    (budget_is : w.budget ≡ v.budget) where
  -- each has ended as alone
  ended : (i0 i1 i2 i3 : Image) (s0 s1 s2 s3 : Started) (e0 e1 e2 e3 : Ending)
      → AreStarted input seed (i0 ∷ i1 ∷ i2 ∷ i3 ∷ []) (s0 ∷ s1 ∷ s2 ∷ s3 ∷ [])
      → w.images ≡ images_at (s0 ∷ s1 ∷ s2 ∷ s3 ∷ []) → w.budget ≡ most
      → ((p : ℕ) (e : Ending) → p < 4 → slice_get (e0 ∷ e1 ∷ e2 ∷ e3 ∷ []) p ≡ Some e
      → EndsAlone w (s0 ∷ s1 ∷ s2 ∷ s3 ∷ []) p e)
      → AllEnd input seed most w 0 (i0 ∷ i1 ∷ i2 ∷ i3 ∷ []) (e0 ∷ e1 ∷ e2 ∷ e3 ∷ [])
  ended i0 i1 i2 i3 s0 s1 s2 s3 e0 e1 e2 e3 started same within alone =
      let programs : List Started = s0 ∷ s1 ∷ s2 ∷ s3 ∷ [] in (
        ends_so input seed most w programs 0 i0 s0 e0 refl started.0 same within (alone 0 e0 (omega arith) refl),
        (
          ends_so input seed most w programs 1 i1 s1 e1 refl started.1.0 same within (alone 1 e1 (omega arith) refl),
          (
            ends_so input seed most w programs 2 i2 s2 e2 refl started.1.1.0 same within
                (alone 2 e2 (omega arith) refl),
            (
              ends_so input seed most w programs 3 i3 s3 e3 refl started.1.1.1.0 same within
                  (alone 3 e3 (omega arith) refl),
              tt,
            ),
          ),
        ),
      )

  -- what the machine has spent is what the runs of the images alone cost
  all_spent : (i0 i1 i2 i3 : Image) (e0 e1 e2 e3 : Ending)
      → AllEnd input seed most w 0 (i0 ∷ i1 ∷ i2 ∷ i3 ∷ []) (e0 ∷ e1 ∷ e2 ∷ e3 ∷ [])
      → w.four.cycles ≤ costs input most (i0 ∷ i1 ∷ i2 ∷ i3 ∷ [])
  all_spent i0 i1 i2 i3 e0 e1 e2 e3 h =
      let a = spent_same input seed most w 0 i0 e0 h.0 in
      let b = spent_same input seed most w 1 i1 e1 h.1.0 in
      let c = spent_same input seed most w 2 i2 e2 h.1.1.0 in
      let d = spent_same input seed most w 3 i3 e3 h.1.1.1.0 in
      let l = over.within in omega (arith, a, b, c, d, l)

  module _ (cycles : Bool) (s : Status) (report : List ℕ) where
    told : (images : List Image) (es : List Ending) → AllEnd input seed most w 0 images es
        → w.four.cycles ≤ costs input most images → HaveBegun images input seed most v → AreTold w cycles es s report
        → IsFourRun images input seed most cycles s report
    told images es h few b t = record {
      made = w.four.cycles;
      counted = record {
        programs = b.programs;
        started = b.started;
        four = w.four;
        ran = subst (λ (bs : Images). HasRan next_hold IsAfter bs most
            (begun_at b.programs (record { generator = generator seed })) w.four) b.images_are
            (subst (λ (n : ℕ). HasRan next_hold IsAfter v.images n
            (begun_at b.programs (record { generator = generator seed })) w.four) b.budget
            (subst (λ (g : Four PcgWeather). HasRan next_hold IsAfter v.images v.budget g w.four) b.begun ran));
        over = subst (λ (n : ℕ). going n w.four ≡ []) (budget_is ∙ b.budget) over.over;
        counted = refl;
      };
      within = few;
      told = (
        t.1.0 ∙ status_same input seed most w 0 images es h,
        t.1.1 ∙ ap₂ (λ (x y : List ℕ). x ++ y) (texts_same input seed most w 0 images es h)
            (ap (counts_text cycles w.four.cycles) (costs_same input seed most w 0 images es h)),
      );
    }

    -- the answer that tells how four have ended that have begun and run to their ends
    pub four_told : (images : List Image) (es : List Ending) → HaveBegun images input seed most v
        → ((programs : List Started) (weather : PcgWeather) → v.four ≡ begun_at programs weather
        → (p : ℕ) (e : Ending)
        → p < 4 → slice_get es p ≡ Some e → EndsAlone w programs p e)
        → AreTold w cycles es s report → IsFourRun images input seed most cycles s report
    four_told images es b alone t =
        of_four (λ is. HaveBegun is input seed most v → IsFourRun is input seed most cycles s report)
        (λ i0 i1 i2 i3. λ c. by i0 i1 i2 i3 c) images b.four_images b
      where
        by : (i0 i1 i2 i3 : Image) → HaveBegun (i0 ∷ i1 ∷ i2 ∷ i3 ∷ []) input seed most v
            → IsFourRun (i0 ∷ i1 ∷ i2 ∷ i3 ∷ []) input seed most cycles s report
        by i0 i1 i2 i3 c = of_four (λ ss. AreStarted input seed (i0 ∷ i1 ∷ i2 ∷ i3 ∷ []) ss
            → w.images ≡ images_at ss
            → ((p : ℕ) (e : Ending) → p < 4 → slice_get es p ≡ Some e → EndsAlone w ss p e)
            → IsFourRun (i0 ∷ i1 ∷ i2 ∷ i3 ∷ []) input seed most cycles s report)
            (λ s0 s1 s2 s3. λ started same ends. of_four
            (λ xs. ((p : ℕ) (e : Ending) → p < 4 → slice_get xs p ≡ Some e
            → EndsAlone w (s0 ∷ s1 ∷ s2 ∷ s3 ∷ []) p e) → AreTold w cycles xs s report
            → IsFourRun (i0 ∷ i1 ∷ i2 ∷ i3 ∷ []) input seed most cycles s report)
            (λ e0 e1 e2 e3. λ each tells.
            let h = ended i0 i1 i2 i3 s0 s1 s2 s3 e0 e1 e2 e3 started same (budget_is ∙ c.budget) each in
            told (i0 ∷ i1 ∷ i2 ∷ i3 ∷ []) (e0 ∷ e1 ∷ e2 ∷ e3 ∷ []) h
            (all_spent i0 i1 i2 i3 e0 e1 e2 e3 h) c tells) es t.0 ends t)
            c.programs (as_many input seed (i0 ∷ i1 ∷ i2 ∷ i3 ∷ []) c.programs c.started) c.started
            (images_are ∙ c.images_are)
            (alone c.programs (record { generator = generator seed }) c.begun)
