-- Runs of the grid with the notes of each of their cycles, and runs that were counted.
use Rattle.std.specs.Prelude.{◌≡◌, ℕ, cond, List, [], ◌++◌, length}
use Rattle.trips_isa.specs.declared.block.Block.{Block}
use Rattle.grid_cycle_spec.specs.Grid.{Grid}
use Rattle.grid_events.specs.Notes.{Note}
use Rattle.grid_events.specs.Cycles.{closing, told}
use Rattle.grid_machine.specs.Endings.{is_going}
use Rattle.grid_machine.specs.WholeRuns.{at_end}
use Rattle.grid_tallies.specs.declared.counters.Counters.{Counters}
use Rattle.grid_tallies.specs.declared.flights.Flights.{Flights}
use Rattle.grid_tallies.specs.Counters.{Hears}
use Rattle.grid_tallies.specs.Flights.{BeganWithFew, Flown}
use Rattle.grid_tallies.specs.Runs.{NotedGoes}

-- what is noted behind the last cycle: where the run has ended, the flush of the frames in flight
abbrev pub end_notes : {W : Type 0} → ℕ → Grid W → List Note
end_notes budget g = cond (is_going budget g.window) [] (closing g)

-- a run of n cycles leads from a grid to another, and this is all that is noted of it
pub record IsNotedRun {W : Type 0} (next : W → ℕ) (follows : W → W → Type 0) (blocks : List Block) (budget n : ℕ)
    (g : Grid W) (notes : List Note) (h : Grid W) : Type 0 where
  -- the notes of each cycle, those of the last first
  pub cycles : List (List Note)
  -- there are n cycles
  pub many : length cycles ≡ n
  -- the grid behind the last cycle
  pub last : Grid W
  -- each is an eager cycle with its notes, before which the run goes on
  pub noted : NotedGoes next follows blocks budget cycles g last
  -- the frames in flight are flushed where the run has ended
  pub ends : h ≡ at_end budget last
  -- the notes of all cycles, and those of the end
  pub all : notes ≡ told cycles ++ end_notes budget last

-- a run has notes
pub record HasNotes {W : Type 0} (next : W → ℕ) (follows : W → W → Type 0) (blocks : List Block) (budget n : ℕ)
    (g h : Grid W) : Type 0 where
  -- what is noted
  pub notes : List Note
  -- this is all of it
  pub noted : IsNotedRun next follows blocks budget n g notes h

-- a run of n cycles was counted: the counters have heard all that is noted of it
pub record IsCountedRun {W : Type 0} (next : W → ℕ) (follows : W → W → Type 0) (blocks : List Block) (budget n : ℕ)
    (g h : Grid W) (a b : Counters) (p q : Flights) : Type 0 where
  -- what is noted of the run
  pub notes : List Note
  -- this is all of it
  pub noted : IsNotedRun next follows blocks budget n g notes h
  -- the counters have heard it
  pub heard : Hears a notes b
  -- the frames in flight have been counted as each of its cycles began
  pub flown : Flown p (length g.window.frames) noted.cycles q
  -- there were at most eight
  pub few : BeganWithFew (length g.window.frames) noted.cycles
