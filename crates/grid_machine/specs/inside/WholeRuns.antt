-- Beside what is believed of WholeRuns.antt: runs of the grid.
use Rattle.std.specs.Prelude.{◌≡◌, ℕ, false, List, []}
use Rattle.trips_isa.specs.declared.block.Block.{Block}
use Rattle.grid_cycle_spec.specs.Grid.{Grid}
use Rattle.grid_cycle_spec.specs.inside.Cycles.{AfterCycles}
use Rattle.grid_machine.specs.inside.Counted.{IsCounted}
use Rattle.grid_machine.specs.Endings.{is_going}
use Rattle.grid_machine.specs.WholeRuns.{at_end}

-- n eager cycles lead from a grid to another, whose frames in flight are flushed where the run has ended
pub record AreCycles {W : Type 0} (next : W → ℕ) (follows : W → W → Type 0) (blocks : List Block) (budget n : ℕ)
    (g h : Grid W) : Type 0 where
  -- the grid behind the last cycle, before the flush
  pub last : Grid W
  pub cycles : AfterCycles next follows blocks budget n g last
  pub ends : h ≡ at_end budget last

-- what stands of a grid between two cycles: its counts have room, and at the end of a run no frame is in flight
pub record IsKept {W : Type 0} (budget : ℕ) (g : Grid W) : Type 0 where
  pub counted : IsCounted g
  pub rests : is_going budget g.window ≡ false → g.window.frames ≡ []
