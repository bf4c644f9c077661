-- The statistics that a report shows, of what is noted of a run.
use Rattle.std.specs.Prelude.{◌≡◌, ◌<◌, ℕ, ◌^◌, List, slice_index_or}
use Rattle.grid_events.specs.Notes.{Note}
use Rattle.grid_events.specs.Counts.{tally}
use Rattle.grid_events.specs.Guesses.{right}
use Rattle.grid_tallies.specs.declared.statistic.Statistic.{Statistic}
use Rattle.grid_tallies.specs.declared.statistic.Statistic.TheVariants as statistic
use Rattle.grid_tallies.specs.Flights.{begun_with}
use Rattle.grid_tallies.specs.Statistics.{weigh}
use Rattle.trips_report.specs.declared.measured.Statistics.{Statistics}

-- which of the numbers that are shown is that of a statistic
abbrev pub number_in : Statistic → Statistics → ℕ
number_in statistic.Movs s = s.movs
number_in statistic.Nulls s = s.nulls
number_in statistic.Useful s = s.useful
number_in statistic.Loads s = s.loads
number_in statistic.Stores s = s.stores
number_in statistic.Violations s = s.violations
number_in statistic.WrongExits s = s.wrong_exits
number_in statistic.Ends s = s.ends
number_in statistic.Predictions s = s.predictions
number_in statistic.Parcels s = s.parcels
number_in statistic.Links s = s.links
number_in statistic.Waits s = s.waits
number_in (statistic.Station tile) s = slice_index_or s.stations tile 0

-- these are the statistics of a run, of the notes of its cycles, those of the last first, and of all its notes; each is
-- so while it has room in 64 bits
pub record AreStatistics (cycles : List (List Note)) (notes : List Note) (s : Statistics) : Type 0 where
  -- each number is how many of the notes count for its statistic
  pub numbers : (k : Statistic) → tally (weigh k) notes < 2 ^ 64 → number_in k s ≡ tally (weigh k) notes
  -- so many predictions are right
  pub predicted : right notes < 2 ^ 64 → s.right ≡ right notes
  -- so many cycles begin with n frames in flight
  pub flown : (n : ℕ) → n < 9 → begun_with n 0 cycles < 2 ^ 64 → slice_index_or s.in_flight n 0 ≡ begun_with n 0 cycles
