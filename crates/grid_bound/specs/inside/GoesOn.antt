-- A run that goes on.
use Rattle.std.specs.Prelude.{◌≡◌, ℕ, ◌<◌, length}
use Rattle.trips_isa.specs.declared.run.Stepped.TheVariants.{Went}
use Rattle.grid_cycle_spec.specs.Grid.{Grid}

-- the run has not ended, and has not spent its budget of blocks
pub record GoesOn {W : Type 0} (budget : ℕ) (g : Grid W) : Type 0 where
  pub went : g.window.over ≡ Went
  -- as many blocks were committed as its trace has
  pub room : length g.window.state.trace < budget
