-- Where a machine of four programs has come from.
use Rattle.std.specs.Prelude.{◌≡◌, ℕ, ◌^◌, ◌<◌, false, []}
use Rattle.trips_isa.specs.Machine.{State}
use Rattle.block_predict.specs.Predicts.{Holding}
use Rattle.commit_flush_spec.specs.InFlight.{opened}
use Rattle.commit_flush_spec.specs.inside.Invariant.{AllGood}
use Rattle.commit_flush_spec.specs.inside.Laws.{WindowOk}
use Rattle.smt_spec.specs.Programs.{Four}
use Rattle.smt_spec.specs.Parts.{Images}
use Rattle.smt_spec.specs.Cycles.{begun, goes_on}
use Rattle.smt_spec.specs.inside.Cycles.{AfterFours}
use Rattle.smt_bound.specs.inside.FourRule.{FourRule}
use Rattle.smt_mode.specs.declared.machine.Machine.{Machine}
use Rattle.smt_mode.specs.Machines.{four_of, images_of}
use Rattle.smt_mode.specs.inside.Rooms.{IsReady}

-- it has come from a stated start by the eager cycles that it counts
pub record HasCome {W : Type 0} (next : W → ℕ) (follows : W → W → Type 0) (images : Images) (budget : ℕ)
    (g : Four W) : Type 0 where
  pub states : ℕ → State
  pub predictors : ℕ → Holding
  pub weather : W
  -- the images are good, and each program began within its budget
  pub good : (p : ℕ) → p < 4 → AllGood (images p)
  pub opens : (p : ℕ) → p < 4 → WindowOk (images p) budget (opened (states p))
  pub run : AfterFours next follows images budget g.cycles (begun states predictors weather) g
  -- the rule, and no frame of a program that is over
  pub rule : FourRule images budget g
  pub rests : (p : ℕ) → p < 4 → goes_on budget (g.own p).window ≡ false → (g.own p).window.frames ≡ []

-- what stands of the machine in code between two calls
pub record IsEngine {W : Type 0} (next : W → ℕ) (follows : W → W → Type 0) (m : Machine W) : Type 0 where
  pub ready : IsReady 0 m
  pub small : m.budget < 2 ^ 32
  pub come : HasCome next follows (images_of m) m.budget (four_of m)
