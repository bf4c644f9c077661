-- What one program's issue is, in words over its own grid.
use Rattle.std.specs.Prelude.{◌≡◌, ℕ, ◌==◌, cond, List, Option, Some, None}
use Rattle.trips_isa.specs.declared.block.Block.{Block}
use Rattle.grid_cycle_spec.specs.Grid.{Grid}
use Rattle.grid_cycle_spec.specs.Choosing.{eldest, slots}
use Rattle.grid_cycle_spec.specs.Units.{ready, issue_chosen}

-- a grid in which the unit of a tile is free
abbrev pub freed : {W : Type 0} → ℕ → Grid W → Grid W
freed tile g = record g { units = λ t. cond (t == tile) 0 (g.units t) }

-- the eldest ready entry of a tile
abbrev pub chosen : {W : Type 0} → List Block → ℕ → ℕ → Grid W → Option (ℕ × ℕ)
chosen blocks budget tile g = eldest (ready blocks budget g tile) slots g.window.frames

-- a program issues what it has chosen on a free unit, which is then busy for so long
pub record IsIssued {W : Type 0} (blocks : List Block) (budget tile : ℕ) (g h : Grid W) (q : ℕ × ℕ) (time : ℕ) :
    Type 0 where
  pub chose : chosen blocks budget tile g ≡ Some q
  pub issued : h ≡ issue_chosen blocks budget tile (Some q) (freed tile g)
  pub busy : time ≡ h.units tile

-- a program has a ready entry and issues it, or has none and is left as it is
abbrev pub IsIssue : {W : Type 0} → List Block → ℕ → ℕ → Grid W → Grid W → Option ℕ → Type 0
IsIssue blocks budget tile g h None = (chosen blocks budget tile g ≡ None) × (h ≡ g)
IsIssue blocks budget tile g h (Some time) = (q : ℕ × ℕ) × IsIssued blocks budget tile g h q time
