-- Cycles that are logged: their notes, and what the log has kept.
use Rattle.std.specs.Prelude.{◌≡◌, ℕ, ◌+◌, List}
use Rattle.trips_isa.specs.declared.block.Block.{Block}
use Rattle.grid_cycle_spec.specs.Grid.{Grid}
use Rattle.grid_events.specs.Notes.{Note}
use Rattle.grid_events.specs.Cycles.{Goes, Noted}
use Rattle.grid_log.specs.declared.log.Log.{Log}
use Rattle.grid_log.specs.Logs.{Logged, at_cycle}

-- an eager cycle with its notes leads from a grid to another, and the log has kept these notes as those of the next
-- cycle
pub record IsLogged {W : Type 0} (next : W → ℕ) (follows : W → W → Type 0) (blocks : List Block) (budget : ℕ)
    (g h : Grid W) (a b : Log) : Type 0 where
  -- what is noted of the cycle
  pub notes : List Note
  -- it is an eager cycle with these notes
  pub noted : Noted next follows blocks budget g notes h
  -- the log has kept them
  pub logged : Logged (at_cycle (g.counts.cycles + 1) a) notes b

-- the same of parts (2) to (6) of a cycle
pub record GoesLogged {W : Type 0} (next : W → ℕ) (follows : W → W → Type 0) (blocks : List Block) (budget : ℕ)
    (g h : Grid W) (a b : Log) : Type 0 where
  -- what is noted of these parts
  pub notes : List Note
  -- they are parts of an eager cycle with these notes
  pub goes : Goes next follows blocks budget g notes h
  -- the log has kept them
  pub logged : Logged a notes b
