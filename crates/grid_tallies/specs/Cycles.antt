-- Cycles and runs that are counted: their notes, and what the counters have heard.
use Rattle.std.specs.Prelude.{◌≡◌, ℕ, zero, suc, ◌++◌, true, cond, List, []}
use Rattle.trips_isa.specs.declared.block.Block.{Block}
use Rattle.grid_cycle_spec.specs.Grid.{Grid}
use Rattle.grid_events.specs.Notes.{Note}
use Rattle.grid_events.specs.Cycles.{Goes, Noted}
use Rattle.grid_tallies.specs.declared.counters.Counters.{Counters}
use Rattle.grid_tallies.specs.Counters.{Hears}

-- an eager cycle with its notes leads from a grid to another, and the counters have heard these notes
pub record IsCounted {W : Type 0} (next : W → ℕ) (follows : W → W → Type 0) (blocks : List Block) (budget : ℕ)
    (g h : Grid W) (a b : Counters) : Type 0 where
  -- what is noted of the cycle
  pub notes : List Note
  -- it is an eager cycle with these notes
  pub noted : Noted next follows blocks budget g notes h
  -- the counters have heard them
  pub heard : Hears a notes b

-- the same of parts (2) to (6) of a cycle
pub record GoesCounted {W : Type 0} (next : W → ℕ) (follows : W → W → Type 0) (blocks : List Block) (budget : ℕ)
    (g h : Grid W) (a b : Counters) : Type 0 where
  -- what is noted of these parts
  pub notes : List Note
  -- they are parts of an eager cycle with these notes
  pub goes : Goes next follows blocks budget g notes h
  -- the counters have heard them
  pub heard : Hears a notes b
