-- Runs of the grid of a seed on an image, from its start or from a state (docs/GRID.md, "Runs").
use Rattle.std.specs.Prelude.{◌≡◌, ℕ, ◌≤◌, List, [], length, Option}
use Rattle.trips_isa.specs.declared.block.Block.{Block}
use Rattle.trips_isa.specs.declared.run.Ending.{Ending}
use Rattle.trips_isa.specs.Machine.{State, start}
use Rattle.operand_net.specs.Seeded as holds
use Rattle.operand_net.specs.declared.weather.PcgWeather.{PcgWeather}
use Rattle.block_predict.specs.Seeded as exits
use Rattle.grid_cycle_spec.specs.Grid.{Grid}
use Rattle.grid_cycle_spec.specs.Cycles.{begun_at}
use Rattle.grid_machine.specs.Answered.{HasCome}
use Rattle.grid_machine.specs.WholeRuns.{IsRun, most_cycles}

-- the hold that the weather of a seed gives next, and the weather after it
abbrev pub next_hold : PcgWeather → ℕ
next_hold w = holds.hold_of w.generator

-- the second weather is the first after one hold more was drawn
abbrev pub IsAfter : PcgWeather → PcgWeather → Type 0
IsAfter v w = w.generator ≡ holds.generator_after v.generator

-- the stated start on a state: no frame is in flight and nothing is under way; predictor and weather are those of the
-- seed
abbrev pub started_on : State → ℕ → Grid PcgWeather
started_on s seed = begun_at s (exits.entries_of seed) (record { generator = holds.generator seed })

-- that of an image on an input
abbrev pub started : List ℕ → List ℕ → ℕ → Grid PcgWeather
started bytes input seed = started_on (start bytes input) seed

-- A run of the grid of a seed from a state with an empty trace, within a budget of blocks, that was answered an ending
-- or none led to this grid.
pub record IsRanFrom (blocks : List Block) (s : State) (budget seed : ℕ) (answer : Option Ending)
    (h : Grid PcgWeather) : Type 0 where
  -- what is told of the run is of this run alone
  pub fresh : s.trace ≡ []
  -- from the stated start by as many eager cycles as are counted, each of a run that goes on, and at the end of the
  -- run the flush of the frames in flight
  pub run : IsRun next_hold IsAfter blocks budget h.counts.cycles (started_on s seed) h
  -- no more cycles than a run may make
  pub few : h.counts.cycles ≤ most_cycles budget
  -- each block of the trace is counted as committed
  pub committed : h.counts.committed ≡ length h.window.state.trace
  -- the machine's state and ending; or, without an ending, all cycles were made and the run goes on
  pub comes : HasCome blocks s budget budget (most_cycles budget) answer h

-- A run of the grid of a seed on an image and an input, from the start.
abbrev pub IsRan : List Block → List ℕ → List ℕ → ℕ → ℕ → Option Ending → Grid PcgWeather → Type 0
IsRan blocks bytes input budget seed answer h = IsRanFrom blocks (start bytes input) budget seed answer h
