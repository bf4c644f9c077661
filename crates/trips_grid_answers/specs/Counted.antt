-- What the grid counts of a run (docs/GRID.md, "Runs").
use Rattle.std.specs.Prelude.{◌≡◌, ℕ, ◌+◌, ◌≤◌, true, false, List, Some, slice_get}
use Rattle.trips_isa.specs.declared.block.Block.{Block}
use Rattle.trips_isa.specs.declared.causes.TrapCause.{TrapCause}
use Rattle.trips_isa.specs.declared.run.Ending.{Ending}
use Rattle.trips_isa.specs.declared.run.Ending.TheVariants.{Trap}
use Rattle.trips_isa.specs.Machine.{State, runs, start}
use Rattle.grid_cycle.specs.declared.weather.AnyWeather.{AnyWeather}
use Rattle.grid_cycle.specs.declared.conditions.Conditions.{Conditions}
use Rattle.grid_cycle_spec.specs.Costs.{cost_in, cost_of, greatest_cost}
use Rattle.grid_cycle_spec.specs.Grid.{Grid}
use Rattle.grid_cycle.specs.Conditions.{IsRanFrom}
use Rattle.grid_cycle.specs.Traps.{is_trap}
use Rattle.grid_events.specs.Notes.{Note}
use Rattle.grid_counted.specs.Runs.{end_notes}
use Rattle.grid_counted.specs.Seeds.{AreNotesFrom}
use Rattle.trips_report.specs.declared.measured.Measured.{Measured}
use Rattle.trips_report.specs.declared.show.Show.{Show}
use Rattle.trips_requests.specs.declared.commands.Cycles.{Cycles}
use Rattle.trips_grid_answers.specs.Events.{event_lines}
use Rattle.trips_grid_answers.specs.Statistics.{AreStatistics}

-- The counts are those of a grid that a run under these conditions from a state with an empty trace leads to: from the
-- stated start by exactly as many eager cycles as it counts, and at the end of the run by the flush of the frames in
-- flight. Its ending and its state are those of the machine's run within the budget, each block of the trace is counted
-- as committed, and each frame that was fetched has been committed or flushed. The statistics, where they are shown,
-- are those of all that is noted of this very run, and so are the events of the cycles whose events are shown.
pub record IsCountedFrom (blocks : List Block) (s : State) (conditions : Conditions) (budget : ℕ) (show : Show)
    (ended : Ending) (measured : Measured) : Type 0 where
  -- the grid as the run leaves it, in the weather that the conditions want
  pub grid : Grid AnyWeather
  -- a run that was answered this ending has led to it
  pub ran : IsRanFrom blocks s budget conditions (Some ended) grid
  pub counted : measured.counts ≡ grid.counts
  -- all that is noted of its cycles and of its end
  pub notes : List Note
  pub noted : AreNotesFrom blocks s budget conditions notes grid
  pub statistics : show.stats ≡ true → AreStatistics noted.cycles notes measured.statistics
  -- the lines of the events of some cycles are those of the notes of these very cycles; no request shows them and the
  -- statistics
  pub events : show.stats ≡ false → (c : Cycles) → show.events ≡ Some c
      → measured.events ≡ event_lines c noted.cycles (end_notes budget noted.last)
  -- a run that ends in no trap makes no more cycles than the blocks of the machine's trace cost
  pub within : is_trap ended ≡ false → measured.counts.cycles ≤ cost_of blocks (runs blocks s budget).0.trace
  -- one that ends in a trap makes no more than that and what the block costs that trapped
  pub trapped : (block : ℕ) (cause : TrapCause) → ended ≡ Trap block cause → measured.counts.cycles
      ≤ cost_of blocks (runs blocks s budget).0.trace + cost_in (slice_get blocks block)
  -- and so any run no more than that and the greatest cost of a block
  pub at_most : measured.counts.cycles ≤ cost_of blocks (runs blocks s budget).0.trace + greatest_cost

-- the same of a run of an image on an input, from the start
abbrev pub IsCountedRun : List Block → List ℕ → List ℕ → Conditions → ℕ → Show → Ending → Measured → Type 0
IsCountedRun blocks bytes input conditions budget show ended measured =
    IsCountedFrom blocks (start bytes input) conditions budget show ended measured
