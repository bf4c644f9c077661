-- Part (6) of a cycle, logged.
use Rattle.std.specs.Prelude.{ℕ, List}
use Rattle.trips_isa.specs.declared.block.Block.{Block}
use Rattle.grid_cycle_spec.specs.Grid.{Grid}
use Rattle.grid_cycle_spec.specs.Cycles.{Moves}
use Rattle.grid_events.specs.Cycles.{moves_notes}
use Rattle.grid_log.specs.declared.log.Log.{Log}
use Rattle.grid_log.specs.Logs.{Logged}

-- the mesh ticks and what has arrived is delivered, and the log has kept what is noted of both
pub record MovesLogged {W : Type 0} (next : W → ℕ) (follows : W → W → Type 0) (blocks : List Block) (budget : ℕ)
    (m h : Grid W) (a b : Log) : Type 0 where
  -- they are part of an eager cycle
  pub moves : Moves next follows blocks budget m h
  -- the log has kept their notes
  pub logged : Logged a (moves_notes blocks budget m moves.parcels moves.weather) b
