-- Beside what is believed of Statistics.antt: what a report shows of counters.
use Rattle.std.specs.Prelude.{[]}
use Rattle.trips_isa.specs.declared.run.Counts.{Counts}
use Rattle.grid_tallies.specs.declared.statistic.Statistic.TheVariants as statistic
use Rattle.grid_tallies.specs.declared.counters.Counters.{Counters}
use Rattle.grid_tallies.specs.declared.flights.Flights.{Flights}
use Rattle.grid_tallies.specs.Statistics.{number_of, stations_of}
use Rattle.trips_report.specs.declared.measured.Measured.{Measured}
use Rattle.trips_report.specs.declared.measured.Statistics.{Statistics}

-- the statistics that are shown of counters
abbrev pub statistics_of : Counters → Flights → Statistics
statistics_of c f = record {
  movs = number_of statistic.Movs c.tallies;
  nulls = number_of statistic.Nulls c.tallies;
  useful = number_of statistic.Useful c.tallies;
  loads = number_of statistic.Loads c.tallies;
  stores = number_of statistic.Stores c.tallies;
  violations = number_of statistic.Violations c.tallies;
  wrong_exits = number_of statistic.WrongExits c.tallies;
  ends = number_of statistic.Ends c.tallies;
  predictions = number_of statistic.Predictions c.tallies;
  right = (c.guesses).right;
  parcels = number_of statistic.Parcels c.tallies;
  links = number_of statistic.Links c.tallies;
  waits = number_of statistic.Waits c.tallies;
  in_flight = f.cycles;
  stations = stations_of c.tallies;
}

-- what was counted of a run whose statistics were counted, and of whose events nothing is told
abbrev pub measured_of : Counts → Counters → Flights → Measured
measured_of counts c f = record { counts = counts; statistics = statistics_of c f; events = [] }
