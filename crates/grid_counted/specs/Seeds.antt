-- Runs of the grid under conditions, from a state, that were counted.
use Rattle.std.specs.Prelude.{ℕ, List, Some}
use Rattle.trips_isa.specs.declared.block.Block.{Block}
use Rattle.trips_isa.specs.declared.run.Ending.{Ending}
use Rattle.trips_isa.specs.Machine.{State}
use Rattle.grid_cycle.specs.declared.weather.AnyWeather.{AnyWeather}
use Rattle.grid_cycle.specs.declared.conditions.Conditions.{Conditions}
use Rattle.grid_cycle_spec.specs.Grid.{Grid}
use Rattle.grid_events.specs.Notes.{Note}
use Rattle.grid_cycle.specs.Conditions.{IsAfter, IsRanFrom, next_hold, started_on}
use Rattle.grid_tallies.specs.declared.counters.Counters.{Counters}
use Rattle.grid_tallies.specs.declared.flights.Flights.{Flights}
use Rattle.grid_tallies.specs.Counters.{AreCountersOf}
use Rattle.grid_tallies.specs.Flights.{AreFlightsOf, BeganWithFew}
use Rattle.grid_counted.specs.Runs.{IsNotedRun}

-- this is all that is noted of the run from a state under these conditions, within a budget of blocks, that has led to
-- a grid: of as many cycles as the grid counts, and of the end
abbrev pub AreNotesFrom : List Block → State → ℕ → Conditions → List Note → Grid AnyWeather → Type 0
AreNotesFrom blocks s budget conditions notes h =
    IsNotedRun next_hold IsAfter blocks budget h.counts.cycles (started_on s conditions) notes h

-- such a run was answered this ending, and the counters are those of its notes
pub record HasCounted (blocks : List Block) (s : State) (budget : ℕ) (conditions : Conditions) (ended : Ending)
    (h : Grid AnyWeather) (c : Counters) (f : Flights) : Type 0 where
  -- the run under the conditions leads to the grid, and is answered the ending
  pub ran : IsRanFrom blocks s budget conditions (Some ended) h
  -- what is noted of the run
  pub notes : List Note
  -- this is all of it
  pub noted : AreNotesFrom blocks s budget conditions notes h
  -- the counters are those of these notes
  pub counted : AreCountersOf notes c
  -- the frames in flight were counted as each of its cycles began
  pub flown : AreFlightsOf noted.cycles f
  -- there were at most eight
  pub few : BeganWithFew 0 noted.cycles
