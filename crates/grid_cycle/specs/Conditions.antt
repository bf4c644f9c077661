-- What a run of the grid begins with beside the machine's state: the predictor and the weather; and runs under such
-- conditions, from the start of an image or from a state (docs/GRID.md, "Runs").
use Rattle.std.specs.Prelude.{◌≡◌, ℕ, ◌-◌, ◌≤◌, List, [], length, replicate, Option}
use Rattle.trips_isa.specs.declared.block.Block.{Block}
use Rattle.trips_isa.specs.declared.run.Ending.{Ending}
use Rattle.trips_isa.specs.Machine.{State, start}
use Rattle.operand_net.specs.Seeded as seeded
use Rattle.operand_net.specs.declared.weather.PcgWeather.{PcgWeather}
use Rattle.block_predict.specs.Predicts.{Holding, holding}
use Rattle.block_predict.specs.Seeded as table
use Rattle.grid_cycle_spec.specs.Grid.{Grid}
use Rattle.grid_cycle_spec.specs.Cycles.{begun_at}
use Rattle.grid_machine.specs.Answered.{HasCome}
use Rattle.grid_machine.specs.WholeRuns.{IsRun, most_cycles}
use Rattle.grid_cycle.specs.declared.conditions.Conditions.{Conditions}
use Rattle.grid_cycle.specs.declared.conditions.Exits.{Exits}
use Rattle.grid_cycle.specs.declared.conditions.Exits.TheVariants as exits
use Rattle.grid_cycle.specs.declared.conditions.Holds.{Holds}
use Rattle.grid_cycle.specs.declared.conditions.Holds.TheVariants as holds
use Rattle.grid_cycle.specs.declared.weather.AnyWeather.{AnyWeather}

-- the predictor ------------------------------------------------------------------------------------

-- a table of 1,024 entries, each of which names exit 0
unfoldable pub zero_entries : List ℕ
zero_entries = replicate 1024 0

-- what the table holds at the start: what the seed draws, or zeros
abbrev pub entries_of : Exits → ℕ → List ℕ
entries_of exits.Seeded seed = table.entries_of seed
entries_of exits.Zero seed = zero_entries

-- the predictor at the start, with history 0 and an empty return stack; it runs ahead by all frames that may be in
-- flight but the oldest
abbrev pub predictor_of : Conditions → Holding
predictor_of c = record (holding (entries_of c.exits c.seed) 0 []) { ahead = c.frames - 1 }

-- the weather --------------------------------------------------------------------------------------

-- the weather at the start
abbrev pub weather_of : Conditions → AnyWeather
weather_of c = record { holds = c.holds; drawn = record { generator = seeded.generator c.seed } }

-- how many cycles the next parcel is held: as the seed draws it, not at all, or for 3 cycles
abbrev pub hold_by : Holds → PcgWeather → ℕ
hold_by holds.Seeded w = seeded.hold_of w.generator
hold_by holds.Calm w = 0
hold_by holds.Worst w = 3

-- the generator after that: a word is drawn where the hold is
abbrev pub drawn_by : Holds → PcgWeather → PcgWeather
drawn_by holds.Seeded w = record { generator = seeded.generator_after w.generator }
drawn_by holds.Calm w = w
drawn_by holds.Worst w = w

-- the hold that a weather gives next
abbrev pub next_hold : AnyWeather → ℕ
next_hold w = hold_by w.holds w.drawn

-- the second weather is the first after that
abbrev pub IsAfter : AnyWeather → AnyWeather → Type 0
IsAfter v w = (w.holds ≡ v.holds) × (w.drawn ≡ drawn_by v.holds v.drawn)

-- runs ---------------------------------------------------------------------------------------------

-- the stated start on a state: no frame is in flight and nothing is under way; predictor and weather are those of the
-- conditions
abbrev pub started_on : State → Conditions → Grid AnyWeather
started_on s c = record (begun_at s [] (weather_of c)) { predictor = predictor_of c }

-- A run of the grid under these conditions from a state with an empty trace, within a budget of blocks, that was
-- answered an ending or none led to this grid.
pub record IsRanFrom (blocks : List Block) (s : State) (budget : ℕ) (conditions : Conditions) (answer : Option Ending)
    (h : Grid AnyWeather) : Type 0 where
  -- what is told of the run is of this run alone
  pub fresh : s.trace ≡ []
  -- from the stated start by as many eager cycles as are counted, each of a run that goes on, and at the end of the
  -- run the flush of the frames in flight
  pub run : IsRun next_hold IsAfter blocks budget h.counts.cycles (started_on s conditions) h
  -- no more cycles than a run may make
  pub few : h.counts.cycles ≤ most_cycles budget
  -- each block of the trace is counted as committed
  pub committed : h.counts.committed ≡ length h.window.state.trace
  -- the machine's state and ending; or, without an ending, all cycles were made and the run goes on
  pub comes : HasCome blocks s budget budget (most_cycles budget) answer h

-- A run of the grid under these conditions on an image and an input, from the start.
abbrev pub IsRan : List Block → List ℕ → List ℕ → ℕ → Conditions → Option Ending → Grid AnyWeather → Type 0
IsRan blocks bytes input budget conditions answer h = IsRanFrom blocks (start bytes input) budget conditions answer h
