-- Four programs at the start of their runs on one grid, from what is said of each and of the machine.
use Rattle.std.proofs.Common.{◌≡◌, ℕ, List, [], ◌∷◌, refl, ap}
use Rattle.std.specs.Prelude.{All, IfOk, Result, Ok, Err}
use Rattle.std.proofs.lemmas.List.Elements.{All-cons, All-nil}
use Rattle.trips_isa.specs.declared.block.Image.{Image}
use Rattle.operand_net.specs.Seeded.{generator}
use Rattle.operand_net.specs.declared.weather.PcgWeather.{PcgWeather}
use Rattle.block_predict.specs.Predicts.{Holding}
use Rattle.smt_mode.specs.Fours.{fours_of}
use Rattle.smt_mode.specs.Machines.{four_of, images_of}
use Rattle.smt_mode.specs.Starts.{begun_at, images_at}
use Rattle.smt_mode.specs.declared.four.Started.{Started}
use Rattle.smt_mode.specs.declared.machine.Machine.{Machine}
use Rattle.trips_four_answers.specs.Runs.{IsStarted}
use Rattle.trips_four_answers.specs.inside.Ended.{HaveBegun}

module _ (input : List ℕ) (seed most : ℕ) (i0 i1 i2 i3 : Image) (s0 s1 s2 s3 : Started)
    (h0 : IsStarted input seed i0 s0) (h1 : IsStarted input seed i1 s1) (h2 : IsStarted input seed i2 s2)
    (h3 : IsStarted input seed i3 s3) where
  stack_of : (image : Image) (s : Started) → IsStarted input seed image s → s.predictor.stack ≡ []
  stack_of image s h = ap (λ (p : Holding). p.stack) h.predictor_is

  abbrev IsEmpty : Started → Type 0
  IsEmpty s = s.predictor.stack ≡ []

  -- no return is predicted yet
  pub stacks : All (λ (s : Started). s.predictor.stack ≡ []) (s0 ∷ s1 ∷ s2 ∷ s3 ∷ [])
  stacks = All-cons IsEmpty s0 (s1 ∷ s2 ∷ s3 ∷ []) (stack_of i0 s0 h0)
      (All-cons IsEmpty s1 (s2 ∷ s3 ∷ []) (stack_of i1 s1 h1)
      (All-cons IsEmpty s2 (s3 ∷ []) (stack_of i2 s2 h2)
      (All-cons IsEmpty s3 [] (stack_of i3 s3 h3) (All-nil IsEmpty))))

  -- a machine that was made of them has begun
  pub have_begun : {E : Type 0} (r : Result (Machine PcgWeather) E)
      → IfOk r (λ f. four_of f ≡ begun_at (s0 ∷ s1 ∷ s2 ∷ s3 ∷ []) (record { generator = generator seed }))
      → IfOk r (λ f. images_of f ≡ images_at (s0 ∷ s1 ∷ s2 ∷ s3 ∷ [])) → IfOk r (λ f. f.budget ≡ most)
      → IfOk r (λ f. HaveBegun (i0 ∷ i1 ∷ i2 ∷ i3 ∷ []) input seed most (fours_of f))
  have_begun (Ok f) begun images budget = record {
    four_images = refl;
    programs = s0 ∷ s1 ∷ s2 ∷ s3 ∷ [];
    started = (h0, (h1, (h2, (h3, tt))));
    begun = begun;
    images_are = images;
    budget = budget;
  }
  have_begun (Err e) begun images budget = tt
