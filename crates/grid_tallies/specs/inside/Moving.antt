-- Part (6) of a cycle, counted.
use Rattle.std.specs.Prelude.{ℕ, List}
use Rattle.trips_isa.specs.declared.block.Block.{Block}
use Rattle.grid_cycle_spec.specs.Grid.{Grid}
use Rattle.grid_cycle_spec.specs.Cycles.{Moves}
use Rattle.grid_events.specs.Cycles.{moves_notes}
use Rattle.grid_tallies.specs.declared.counters.Counters.{Counters}
use Rattle.grid_tallies.specs.Counters.{Hears}

-- the mesh ticks and what has arrived is delivered, and the counters have heard what is noted of both
pub record MovesCounted {W : Type 0} (next : W → ℕ) (follows : W → W → Type 0) (blocks : List Block) (budget : ℕ)
    (m h : Grid W) (a b : Counters) : Type 0 where
  pub moves : Moves next follows blocks budget m h
  pub heard : Hears a (moves_notes blocks budget m moves.parcels moves.weather) b
