-- Beside what is believed of Events.antt: what a report shows of a log.
use Rattle.std.specs.Prelude.{List, ℕ}
use Rattle.trips_isa.specs.declared.run.Counts.{Counts}
use Rattle.grid_log.specs.declared.log.Log.{Log}
use Rattle.trips_report.specs.declared.measured.Measured.{Measured}
use Rattle.trips_report.specs.Runs.{no_statistics}
use Rattle.trips_grid_answers.specs.Events.{lines_and_more}

-- the lines of the events that a log holds, and that there are more
abbrev pub lines_of : Log → List ℕ
lines_of log = lines_and_more log.entries.items log.more

-- what was counted and is told of a run whose events were logged
abbrev pub logged_of : Counts → Log → Measured
logged_of counts log = record { counts = counts; statistics = no_statistics; events = lines_of log }
