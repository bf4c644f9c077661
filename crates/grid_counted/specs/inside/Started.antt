-- Beside what is believed of Seeds.antt: grids at their starts.
use Rattle.std.specs.Prelude.{◌≡◌, []}
use Rattle.trips_isa.specs.Machine.{State}
use Rattle.grid_cycle.specs.declared.weather.AnyWeather.{AnyWeather}
use Rattle.grid_cycle.specs.declared.conditions.Conditions.{Conditions}
use Rattle.grid_cycle_spec.specs.Grid.{Grid}
use Rattle.grid_cycle.specs.Conditions.{started_on}

-- a grid is the stated start under some conditions, on some state with an empty trace
pub record IsStarted (g : Grid AnyWeather) : Type 0 where
  pub state : State
  pub conditions : Conditions
  pub fresh : state.trace ≡ []
  pub starts : g ≡ started_on state conditions
