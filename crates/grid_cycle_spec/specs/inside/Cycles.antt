-- Beside what is believed of Cycles.antt: A cycle of the grid, and runs of cycles (docs/GRID.md, "A cycle").
use Rattle.std.specs.Prelude.{◌≡◌, ℕ, zero, suc, List}
use Rattle.trips_isa.specs.declared.block.Block.{Block}
use Rattle.grid_cycle_spec.specs.Grid.{Grid}
use Rattle.grid_cycle_spec.specs.Cycles.{Eager, Then}

-- n eager cycles, one after another
abbrev pub AfterCycles : {W : Type 0} → (W → ℕ) → (W → W → Type 0) → List Block → ℕ → ℕ → Grid W → Grid W → Type 0
AfterCycles next follows blocks budget zero g h = h ≡ g
AfterCycles next follows blocks budget (suc n) g h =
    Then (λ m. AfterCycles next follows blocks budget n g m) (λ m. Eager next follows blocks budget m h)
