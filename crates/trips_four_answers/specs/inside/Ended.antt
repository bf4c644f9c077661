-- Four programs of the code, as they have begun and as they have ended.
use Rattle.std.specs.Prelude.{◌≡◌, ℕ, ◌+◌, Bool, List, [], ◌∷◌, ◌++◌, length}
use Rattle.trips_isa.specs.declared.block.Image.{Image}
use Rattle.trips_isa.specs.declared.run.Ending.{Ending}
use Rattle.operand_net.specs.Seeded.{generator}
use Rattle.operand_net.specs.declared.weather.PcgWeather.{PcgWeather}
use Rattle.grid_cycle_spec.specs.Costs.{cost_of}
use Rattle.smt_mode.specs.Fours.{Fours}
use Rattle.smt_mode.specs.Starts.{begun_at, images_at}
use Rattle.smt_mode.specs.declared.four.Started.{Started}
use Rattle.trips_report.specs.Endings.{status_of}
use Rattle.trips_requests.specs.declared.status.Status.{Status}
use Rattle.trips_requests.specs.declared.status.Status.TheVariants as status
use Rattle.trips_requests.specs.Texts.{IsFixed}
use Rattle.trips_grid_answers.specs.Report.{trap_cost}
use Rattle.trips_four_answers.specs.Report.{counts_text, program_text, status_or}
use Rattle.trips_four_answers.specs.Runs.{AreStarted}

-- a machine has begun with programs of images, each on the input, in the weather of a seed
pub record HaveBegun (images : List Image) (input : List ℕ) (seed most : ℕ) (v : Fours PcgWeather) : Type 0 where
  pub four_images : length images ≡ 4
  pub programs : List Started
  pub started : AreStarted input seed images programs
  pub begun : v.four ≡ begun_at programs (record { generator = generator seed })
  pub images_are : v.images ≡ images_at programs
  pub budget : v.budget ≡ most

-- the report of one program of a machine that has ended so
abbrev pub text_by : Fours PcgWeather → ℕ → Ending → List ℕ
text_by v program e = program_text program e (v.four.own program).window.state

-- what it may have cost
abbrev pub cost_by : Fours PcgWeather → ℕ → Ending → ℕ
cost_by v program e = cost_of (v.images program) (v.four.own program).window.state.trace
    + trap_cost (v.images program) e

-- the reports of programs from a number on, which have ended so
abbrev pub texts_by : Fours PcgWeather → ℕ → List Ending → List ℕ
texts_by v program [] = []
texts_by v program (e ∷ es) = text_by v program e ++ texts_by v (program + 1) es

-- what they may have cost together
abbrev pub costs_by : Fours PcgWeather → ℕ → List Ending → ℕ
costs_by v program [] = 0
costs_by v program (e ∷ es) = cost_by v program e + costs_by v (program + 1) es

-- the status of the lowest from a number on that has not ended with its end
abbrev pub status_by : Fours PcgWeather → ℕ → List Ending → Status
status_by v program [] = status.Ended
status_by v program (e ∷ es) =
    status_or (status_of e (v.four.own program).window.state) (status_by v (program + 1) es)

-- the answer that tells how four have ended
abbrev pub AreTold : Fours PcgWeather → Bool → List Ending → Status → List ℕ → Type 0
AreTold v cycles es s report = (length es ≡ 4) × IsFixed (status_by v 0 es)
    (texts_by v 0 es ++ counts_text cycles v.four.cycles (costs_by v 0 es)) s report
