-- Which events of a run are logged: those of some of its cycles.
use Rattle.std.specs.Prelude.{ℕ, nat_le, Bool, cond, ◌&&◌, List, [], ◌∷◌, ◌++◌, length}
use Rattle.trips_isa.specs.declared.block.Block.{Block}
use Rattle.grid_cycle_spec.specs.Grid.{Grid}
use Rattle.grid_events.specs.Notes.{Note}
use Rattle.grid_counted.specs.Runs.{IsNotedRun, end_notes}
use Rattle.grid_log.specs.declared.log.Entry.{Entry}
use Rattle.grid_log.specs.declared.log.Log.{Log}
use Rattle.grid_log.specs.Events.{entries_of}
use Rattle.grid_log.specs.Logs.{Keeps}
use Rattle.grid_log.specs.Runs.{cycles_entries}

-- whether a cycle is one of those from the first to the last
abbrev pub is_between : ℕ → ℕ → ℕ → Bool
is_between first last c = nat_le first c && nat_le c last

-- the entries among some that are of such a cycle, in their order
abbrev pub entries_between : ℕ → ℕ → List Entry → List Entry
entries_between first last [] = []
entries_between first last (x ∷ xs) =
    cond (is_between first last x.cycle) (x ∷ entries_between first last xs) (entries_between first last xs)

-- all entries of a run: those of the notes of its cycles, of which those of the last are given first, and those of what
-- is noted at its end, as of the last cycle
abbrev pub run_entries : List (List Note) → List Note → List Entry
run_entries ess end = cycles_entries 0 ess ++ entries_of (length ess) end

-- a run of n cycles was logged: the log has kept the entries of its cycles from the first to the last
pub record IsLoggedRun {W : Type 0} (next : W → ℕ) (follows : W → W → Type 0) (blocks : List Block)
    (budget n first last : ℕ) (g h : Grid W) (a b : Log) : Type 0 where
  -- all that is noted of the run
  pub notes : List Note
  pub noted : IsNotedRun next follows blocks budget n g notes h
  -- the log has kept what is of these cycles
  pub keeps : Keeps a (entries_between first last (run_entries noted.cycles (end_notes budget noted.last))) b
