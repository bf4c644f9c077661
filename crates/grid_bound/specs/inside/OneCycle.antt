-- The cycle bound in one statement, said of one cycle of a grid that has its rule.
use Rattle.std.specs.Prelude.{◌≡◌, ℕ, ◌<◌, ◌≤◌, ◌⊎◌, List, slice_get}
use Rattle.trips_isa.specs.declared.block.Block.{Block}
use Rattle.commit_flush_spec.specs.inside.Laws.{WindowOk}
use Rattle.grid_cycle_spec.specs.Costs.{cost_in}
use Rattle.grid_cycle_spec.specs.Grid.{Grid}
use Rattle.grid_bound.specs.inside.Left.{left}
use Rattle.grid_bound.specs.inside.Programs.{size_in}
use Rattle.grid_bound.specs.inside.Rule.{GenerationsCounted, GridRule}
use Rattle.grid_bound.specs.inside.Lanes.{lane_in}
use Rattle.grid_bound.specs.inside.Shows.{Commits}

-- all that every grid keeps
pub record HasRule {W : Type 0} (blocks : List Block) (budget : ℕ) (g : Grid W) : Type 0 where
  -- the window's invariant
  pub window : WindowOk blocks budget g.window
  -- what is under way is what is to be
  pub rule : GridRule g
  -- no frame was filled more often than cycles were made
  pub generations : GenerationsCounted g
  -- there are sixteen tiles, and no unit beyond
  pub units : (t : ℕ) → 16 ≤ t → g.units t ≡ 0

-- what is left for the block that commits next: a number that the grid alone tells
abbrev pub left_in : {W : Type 0} → List Block → Grid W → ℕ
left_in blocks g = left (λ n. size_in (slice_get blocks g.window.state.next)) (lane_in g)

-- one cycle, from grid g to grid h
pub record OneCycle {W : Type 0} (blocks : List Block) (budget : ℕ) (g h : Grid W) : Type 0 where
  -- what is left is from one cycle to the cost of the block that commits next
  pub least : 1 ≤ left_in blocks g
  pub most : left_in blocks g ≤ cost_in (slice_get blocks g.window.state.next)
  -- the block is committed, or the run traps, or the committed state stays and less is left
  pub falls : Commits g h ⊎ ((h.window.state ≡ g.window.state) × (left_in blocks h < left_in blocks g))
  -- the rule stands behind the cycle too
  pub kept : HasRule blocks budget h
