-- Runs of the grid under conditions, from a state, of which events were logged.
use Rattle.std.specs.Prelude.{◌≡◌, ℕ, List, Some}
use Rattle.trips_isa.specs.declared.block.Block.{Block}
use Rattle.trips_isa.specs.declared.run.Ending.{Ending}
use Rattle.trips_isa.specs.Machine.{State}
use Rattle.grid_cycle.specs.declared.weather.AnyWeather.{AnyWeather}
use Rattle.grid_cycle.specs.declared.conditions.Conditions.{Conditions}
use Rattle.grid_cycle_spec.specs.Grid.{Grid}
use Rattle.grid_events.specs.Notes.{Note}
use Rattle.grid_cycle.specs.Conditions.{IsRanFrom}
use Rattle.grid_counted.specs.Runs.{end_notes}
use Rattle.grid_counted.specs.Seeds.{AreNotesFrom}
use Rattle.grid_log.specs.declared.log.Log.{Log}
use Rattle.grid_log.specs.Logs.{IsOf}
use Rattle.grid_logged.specs.Runs.{entries_between, run_entries}

-- The run from a state under these conditions was answered this ending, and the log, where memory has not been wanting,
-- holds the entries of its cycles from the first to the last, as many as its limit allows.
pub record HasLogged (blocks : List Block) (s : State) (budget : ℕ) (conditions : Conditions)
    (first last limit : ℕ) (ended : Ending) (h : Grid AnyWeather) (log : Log) : Type 0 where
  -- the run leads to the grid, and is answered the ending
  pub ran : IsRanFrom blocks s budget conditions (Some ended) h
  -- what is noted of the run
  pub notes : List Note
  -- all that is noted of this very run
  pub noted : AreNotesFrom blocks s budget conditions notes h
  -- the log holds the entries of those cycles
  pub logged : IsOf (entries_between first last (run_entries noted.cycles (end_notes budget noted.last))) log
  -- its limit is the one that was given
  pub limited : log.limit ≡ limit
