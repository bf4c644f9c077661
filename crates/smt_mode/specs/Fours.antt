-- Four programs on one grid as they are seen, and what a run of them comes to.
use Rattle.std.specs.Prelude.{◌≡◌, ◌≢◌, ℕ, ◌+◌, ◌≤◌, Bool, true, false, List, []}
use Rattle.trips_isa.specs.declared.run.Ending.{Ending}
use Rattle.trips_isa.specs.Machine.{runs}
use Rattle.grid_machine.specs.Endings.{ending_of}
use Rattle.smt_spec.specs.Programs.{Four}
use Rattle.smt_spec.specs.Parts.{Images}
use Rattle.smt_spec.specs.Cycles.{going}
use Rattle.smt_spec.specs.inside.Cycles.{AfterFours}
use Rattle.smt_bound.specs.Costs.{spent_by_all}
use Rattle.smt_mode.specs.declared.four.Started.{Started}
use Rattle.smt_mode.specs.declared.machine.Machine.{Machine}
use Rattle.smt_mode.specs.Machines.{four_of, images_of}
use Rattle.smt_mode.specs.Starts.{states_at}

-- the blocks of each program's image, how many each may commit, and the machine
pub record Fours (W : Type 0) : Type 0 where
  pub images : Images
  pub budget : ℕ
  pub four : Four W

-- so is a machine of the code
abbrev pub fours_of : {W : Type 0} → Machine W → Fours W
fours_of m = record { images = images_of m; budget = m.budget; four = four_of m }

-- four cycles eager: as many eager cycles as are counted lead from a machine to another, before each of which some
-- program is not over
pub record HasRan {W : Type 0} (next : W → ℕ) (follows : W → W → Type 0) (images : Images) (budget : ℕ)
    (g h : Four W) : Type 0 where
  pub made : ℕ
  pub run : AfterFours next follows images budget made g h
  pub counted : h.cycles ≡ g.cycles + made

-- each as alone: a program has come to where its own machine comes to within the budget, and its ending is what the
-- last step came to; no frame is in flight
pub record EndsAlone {W : Type 0} (v : Fours W) (programs : List Started) (p : ℕ) (e : Ending) : Type 0 where
  pub state : (v.four.own p).window.state ≡ (runs (v.images p) (states_at programs p) v.budget).0
  pub over : (v.four.own p).window.over ≡ (runs (v.images p) (states_at programs p) v.budget).1
  pub ending : e ≡ ending_of (v.four.own p).window.over (v.four.own p).window.state.next
  pub rests : (v.four.own p).window.frames ≡ []

-- all four are over, within what they have cost
pub record AllOver {W : Type 0} (v : Fours W) : Type 0 where
  pub over : going v.budget v.four ≡ []
  pub within : v.four.cycles ≤ spent_by_all v.images v.four

-- whether all four are over
abbrev pub IsOver : {W : Type 0} → Bool → Fours W → Type 0
IsOver true v = going v.budget v.four ≡ []
IsOver false v = going v.budget v.four ≢ []
