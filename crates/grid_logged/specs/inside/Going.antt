-- Beside what is believed of Runs.antt: the cycles of a run, one by one.
use Rattle.std.specs.Prelude.{◌≡◌, ℕ, ◌+◌, List, length}
use Rattle.trips_isa.specs.declared.block.Block.{Block}
use Rattle.grid_cycle_spec.specs.Grid.{Grid}
use Rattle.grid_events.specs.Notes.{Note}
use Rattle.grid_events.specs.Cycles.{Noted}
use Rattle.grid_tallies.specs.Runs.{NotedGoes}
use Rattle.grid_log.specs.declared.log.Log.{Log}
use Rattle.grid_log.specs.Events.{entries_of}
use Rattle.grid_log.specs.Logs.{Keeps}
use Rattle.grid_log.specs.Runs.{cycles_entries}
use Rattle.grid_logged.specs.Runs.{entries_between}

-- one cycle, and the log has kept its entries where it is one of those from the first to the last
pub record IsNext {W : Type 0} (next : W → ℕ) (follows : W → W → Type 0) (blocks : List Block)
    (budget first last : ℕ) (g h : Grid W) (a b : Log) : Type 0 where
  -- what is noted of the cycle
  pub notes : List Note
  -- it is an eager cycle with these notes
  pub noted : Noted next follows blocks budget g notes h
  -- the log has kept what of them is wanted
  pub keeps : Keeps a (entries_between first last (entries_of (g.counts.cycles + 1) notes)) b

-- n cycles, before each of which the run goes on, and the log has kept the entries of those from the first to the last
pub record AreNext {W : Type 0} (next : W → ℕ) (follows : W → W → Type 0) (blocks : List Block)
    (budget n first last : ℕ) (g h : Grid W) (a b : Log) : Type 0 where
  -- the notes of each cycle, those of the last first
  pub notes : List (List Note)
  -- so many cycles
  pub many : length notes ≡ n
  -- they lead from the one grid to the other
  pub cycles : NotedGoes next follows blocks budget notes g h
  -- the log has kept what of their notes is wanted
  pub keeps : Keeps a (entries_between first last (cycles_entries g.counts.cycles notes)) b
