-- What the parts of a cycle ask of the oldest frame, together.
use Rattle.std.specs.Prelude.{◌≡◌, ℕ, false, List, ◌∷◌}
use Rattle.trips_isa.specs.declared.block.Block.{Block}
use Rattle.commit_flush_spec.specs.Frames.{Frame}
use Rattle.grid_cycle_spec.specs.Grid.{Grid}
use Rattle.grid_cycle_spec.specs.Choosing.{each}
use Rattle.grid_cycle_spec.specs.Banks.{reads_answered}
use Rattle.grid_cycle_spec.specs.DataTiles.{data_turn, answers}
use Rattle.grid_cycle_spec.specs.Units.{unit_turn, works_on}
use Rattle.grid_bound.specs.inside.Shows.{QuietReads}
use Rattle.grid_bound.specs.inside.DataRule.{DataRule}
use Rattle.grid_bound.specs.inside.UnitRule.{UnitRule}
use Rattle.grid_bound.specs.inside.MoveRule.{MoveRule}

-- parts (3) to (6), from the grid behind part (2) on
pub record CycleRule {W : Type 0} (blocks : List Block) (budget : ℕ) (g : Grid W) : Type 0 where
  -- before part (3), no unanswered read has a parcel
  pub reads : (f : Frame) (fs : List Frame) → g.window.frames ≡ f ∷ fs → f.sealed ≡ false → QuietReads g f
  -- before the turn of each data tile, each request that stands is one that waits
  pub tiles : (d : ℕ) (f : Frame) (fs : List Frame)
      → (each (data_turn blocks budget) d (reads_answered blocks budget g)).window.frames ≡ f ∷ fs → f.sealed ≡ false
      → DataRule (each (data_turn blocks budget) d (reads_answered blocks budget g)) f
  -- before the turn of each tile's unit, each result is one that is to come
  pub units : (k : ℕ) (f : Frame) (fs : List Frame)
      → (each (unit_turn blocks budget) k (answers blocks budget (reads_answered blocks budget g))).window.frames
      ≡ f ∷ fs → f.sealed ≡ false
      → UnitRule (each (unit_turn blocks budget) k (answers blocks budget (reads_answered blocks budget g))) f
  -- before part (6), each parcel is one that is to travel
  pub moves : (f : Frame) (fs : List Frame)
      → (works_on blocks budget (answers blocks budget (reads_answered blocks budget g))).window.frames ≡ f ∷ fs
      → f.sealed ≡ false
      → MoveRule (works_on blocks budget (answers blocks budget (reads_answered blocks budget g))) f
