-- Runs that are logged: their cycles, each with its notes, and what the log has kept.
use Rattle.std.specs.Prelude.{◌≡◌, ℕ, ◌+◌, true, List, [], ◌∷◌, ◌++◌, length}
use Rattle.trips_isa.specs.declared.block.Block.{Block}
use Rattle.grid_cycle_spec.specs.Grid.{Grid}
use Rattle.grid_events.specs.Notes.{Note}
use Rattle.grid_machine.specs.Endings.{is_going}
use Rattle.grid_machine.specs.WholeRuns.{GoesFor}
use Rattle.grid_tallies.specs.Runs.{NotedGoes}
use Rattle.grid_log.specs.declared.log.Entry.{Entry}
use Rattle.grid_log.specs.declared.log.Log.{Log}
use Rattle.grid_log.specs.Events.{entries_of}
use Rattle.grid_log.specs.Logs.{Keeps}

-- the entries of some cycles behind so many, the notes of the last cycle being given first
abbrev pub cycles_entries : ℕ → List (List Note) → List Entry
cycles_entries made [] = []
cycles_entries made (es ∷ ess) = cycles_entries made ess ++ entries_of (made + length ess + 1) es

-- n cycles, before each of which the run goes on, lead from a grid to another, and the log has kept the notes of all,
-- each as one of its cycle
pub record AreLogged {W : Type 0} (next : W → ℕ) (follows : W → W → Type 0) (blocks : List Block) (budget n : ℕ)
    (g h : Grid W) (a b : Log) : Type 0 where
  -- the notes of each cycle, those of the last first
  pub notes : List (List Note)
  -- so many cycles
  pub many : length notes ≡ n
  -- the run went on before each
  pub cycles : NotedGoes next follows blocks budget notes g h
  -- the log has kept the notes of all
  pub keeps : Keeps a (cycles_entries g.counts.cycles notes) b

-- a window on a run: at most so many cycles of which nothing is kept, and then n that are logged; fewer are passed
-- only where the run goes on no longer
pub record IsWindow {W : Type 0} (next : W → ℕ) (follows : W → W → Type 0) (blocks : List Block) (budget before n : ℕ)
    (g h : Grid W) (a b : Log) : Type 0 where
  -- how many cycles are passed
  pub passed : ℕ
  -- the grid behind them
  pub between : Grid W
  -- before each the run goes on
  pub unlogged : GoesFor next follows blocks budget passed g between
  -- all are passed while it does
  pub full : is_going budget between.window ≡ true → passed ≡ before
  -- the cycles behind them are logged
  pub logged : AreLogged next follows blocks budget n between h a b
