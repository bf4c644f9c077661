-- Beside what is believed of Runs.antt: what is told of a grid at the end of its run.
use Rattle.std.specs.Prelude.{ℕ, List}
use Rattle.trips_isa.specs.declared.block.Block.{Block}
use Rattle.trips_isa.specs.declared.run.Ending.{Ending}
use Rattle.grid_cycle.specs.declared.weather.AnyWeather.{AnyWeather}
use Rattle.grid_cycle_spec.specs.Costs.{cost_of}
use Rattle.grid_cycle_spec.specs.Grid.{Grid}
use Rattle.trips_report.specs.declared.measured.Measured.{Measured}
use Rattle.trips_report.specs.declared.show.Show.{Show}
use Rattle.trips_report.specs.Endings.{status_of}
use Rattle.trips_requests.specs.declared.status.Status.{Status}
use Rattle.trips_requests.specs.Texts.{IsFixed}
use Rattle.trips_grid_answers.specs.Report.{shown_report}

-- a grid of these blocks whose run has ended so, and what was counted of it
abbrev pub TellsGrid : Ending → List Block → Grid AnyWeather → Measured → Show → Status → List ℕ → Type 0
TellsGrid ended blocks g measured show s report =
    IsFixed (status_of ended g.window.state)
    (shown_report ended g.window.state measured (cost_of blocks g.window.state.trace) show) s report
