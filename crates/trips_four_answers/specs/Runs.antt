-- What the cycles of four programs on the grid of a seed are that a report counts.
use Rattle.std.specs.Prelude.{◌≡◌, ℕ, ◌≤◌, Bool, List, [], ◌∷◌}
use Rattle.trips_isa.specs.declared.block.Image.{Image}
use Rattle.operand_net.specs.Seeded.{generator}
use Rattle.operand_net.specs.declared.weather.PcgWeather.{PcgWeather}
use Rattle.block_predict.specs.Predicts.{holding}
use Rattle.block_predict.specs.Seeded.{entries_of}
use Rattle.grid_machine.specs.Seeds.{IsAfter, next_hold}
use Rattle.smt_spec.specs.Programs.{Four}
use Rattle.smt_spec.specs.Cycles.{going}
use Rattle.smt_mode.specs.Fours.{HasRan}
use Rattle.smt_mode.specs.Starts.{begun_at, images_at}
use Rattle.smt_mode.specs.declared.four.Started.{Started}
use Rattle.trips_requests.specs.declared.status.Status.{Status}
use Rattle.trips_four_answers.specs.Report.{TellsIn, costs}

-- a program at the start of its run is that of an image and an input, with the predictor of a seed
pub record IsStarted (input : List ℕ) (seed : ℕ) (image : Image) (s : Started) : Type 0 where
  pub image_is : s.image ≡ image
  pub input_is : s.input.items ≡ input
  pub predictor_is : s.predictor ≡ holding (entries_of seed) 0 []

-- so are all
abbrev pub AreStarted : List ℕ → ℕ → List Image → List Started → Type 0
AreStarted input seed [] [] = Unit {0}
AreStarted input seed (image ∷ images) (s ∷ ss) = IsStarted input seed image s × AreStarted input seed images ss
AreStarted input seed images ss = ⊥

-- Images run on one grid within so many blocks each, from the stated start of all in the weather of a seed: so many
-- eager cycles lead from there to where all are over.
pub record IsCounted (images : List Image) (input : List ℕ) (seed most made : ℕ) : Type 0 where
  pub programs : List Started
  pub started : AreStarted input seed images programs
  -- the machine at the end
  pub four : Four PcgWeather
  pub ran : HasRan next_hold IsAfter (images_at programs) most
      (begun_at programs (record { generator = generator seed })) four
  pub over : going most four ≡ []
  pub counted : made ≡ four.cycles

-- The runs of four images on one grid are told: those of each alone, and the cycles that they took together.
pub record IsFourRun (images : List Image) (input : List ℕ) (seed most : ℕ) (cycles : Bool) (s : Status)
    (report : List ℕ) : Type 0 where
  pub made : ℕ
  pub counted : IsCounted images input seed most made
  pub within : made ≤ costs input most images
  pub told : TellsIn images input most cycles made s report
