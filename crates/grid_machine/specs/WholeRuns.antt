-- Runs of the grid: eager cycles while the run goes on, and at its end the flush of the frames in flight
-- (docs/GRID.md, "Runs").
use Rattle.std.specs.Prelude.{◌≡◌, ℕ, zero, suc, ◌*◌, true, cond, List}
use Rattle.trips_isa.specs.declared.block.Block.{Block}
use Rattle.commit_flush_spec.specs.Window.{Window}
use Rattle.grid_cycle_spec.specs.Grid.{Grid}
use Rattle.grid_cycle_spec.specs.Costs.{greatest}
use Rattle.grid_cycle_spec.specs.Cycles.{Eager, Then, closed}
use Rattle.grid_machine.specs.Endings.{is_going}

-- n eager cycles, one after another, before each of which the run goes on
abbrev pub GoesFor : {W : Type 0} → (W → ℕ) → (W → W → Type 0) → List Block → ℕ → ℕ → Grid W → Grid W → Type 0
GoesFor next follows blocks budget zero g h = h ≡ g
GoesFor next follows blocks budget (suc n) g h =
    Then (λ m. GoesFor next follows blocks budget n g m × (is_going budget m.window ≡ true))
    (λ m. Eager next follows blocks budget m h)

-- the frames in flight are flushed where the run has ended
abbrev pub at_end : {W : Type 0} → ℕ → Grid W → Grid W
at_end budget g = cond (is_going budget g.window) g (closed g)

-- a run of n cycles leads from a grid to another
pub record IsRun {W : Type 0} (next : W → ℕ) (follows : W → W → Type 0) (blocks : List Block) (budget n : ℕ)
    (g h : Grid W) : Type 0 where
  -- the grid after the last cycle
  pub last : Grid W
  pub cycles : GoesFor next follows blocks budget n g last
  pub ends : h ≡ at_end budget last

-- how many cycles a single call makes: one where the run goes on
abbrev pub going_cycles : ℕ → Window → ℕ
going_cycles budget w = cond (is_going budget w) 1 0

-- the greatest number of cycles that a run makes: the greatest cost of a block, for each block of the budget
unfoldable pub most_cycles : ℕ → ℕ
most_cycles budget = greatest * budget
