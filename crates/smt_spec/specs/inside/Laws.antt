-- The words of the laws of four programs, beside what is believed.
use Rattle.std.specs.Prelude.{◌≡◌, ℕ, ◌≤◌}
use Rattle.grid_cycle_spec.specs.Grid.{Grid}

-- y is x, but that units below tile k which x leaves free may be busy
pub record Lends {W : Type 0} (k : ℕ) (x y : Grid W) : Type 0 where
  pub is : y ≡ record x { units = y.units }
  -- the units from tile k on are as busy
  pub ahead : (t : ℕ) → k ≤ t → y.units t ≡ x.units t
  -- and so is each that x has busy
  pub busy : (t : ℕ) → 1 ≤ x.units t → y.units t ≡ x.units t
