-- The rule of four programs: what the bound of cycles asks of the machine, and every cycle keeps.
use Rattle.std.specs.Prelude.{◌≡◌, ◌≢◌, ℕ, ◌<◌, ◌≤◌, true, false, List, [], ◌∷◌, length, None}
use Rattle.trips_isa.specs.declared.causes.TrapCause.{TrapCause}
use Rattle.trips_isa.specs.declared.run.Stepped.TheVariants.{Trap}
use Rattle.commit_flush_spec.specs.Window.{Window}
use Rattle.grid_cycle_spec.specs.Grid.{numbers_of}
use Rattle.grid_bound.specs.inside.OneCycle.{HasRule}
use Rattle.smt_spec.specs.Programs.{Own, Four, alone}
use Rattle.smt_spec.specs.Parts.{Images}
use Rattle.smt_spec.specs.Cycles.{goes_on}

-- each number of some is 0 or 1
abbrev pub AllTwo : List ℕ → Type 0
AllTwo [] = Unit {0}
AllTwo (n ∷ ns) = (n < 2) × AllTwo ns

-- a program has the frames 0 and 1, and fetches for one of them only while the other alone may be in flight
pub record TwoFrames (o : Own) : Type 0 where
  pub numbers : AllTwo (numbers_of o.window.frames)
  pub room : o.fetching ≢ None → length o.window.frames < 2

-- no run commits more blocks than its budget, and none that has trapped has committed as many
pub record WithinBudget (budget : ℕ) (w : Window) : Type 0 where
  pub spent : length w.state.trace ≤ budget
  pub trapped : (c : TrapCause) → w.over ≡ Trap c → length w.state.trace < budget

-- the rule
pub record FourRule {W : Type 0} (images : Images) (budget : ℕ) (g : Four W) : Type 0 where
  -- each program that is not over sees a grid that has its rule, whatever place it has among the four
  pub grids : (q : ℕ) → q < 4 → goes_on budget (g.own q).window ≡ true → HasRule (images q) budget (alone q g)
  -- one that is over has no fetch
  pub fetchless : (q : ℕ) → q < 4 → goes_on budget (g.own q).window ≡ false → (g.own q).fetching ≡ None
  pub frames : (q : ℕ) → q < 4 → TwoFrames (g.own q)
  pub budgets : (q : ℕ) → q < 4 → WithinBudget budget (g.own q).window
  -- there are sixteen tiles, and no unit beyond
  pub units : (t : ℕ) → 16 ≤ t → g.units t ≡ 0
