-- What the fetch unit does, from its parts, and by cycles.
use Rattle.std.specs.Prelude.{ℕ, Bool, true, false, Option, Some, None}
use Rattle.grid_cycle_spec.specs.Grid.{Fetching}

-- the fetch of a block that is under way
abbrev pub under_way : ℕ → ℕ → ℕ → Bool → Option Fetching
under_way left block history careful =
    Some (record { left = left; block = block; history = history; careful = careful })

-- the same where the unit is busy
abbrev pub fetch_by : Bool → ℕ → ℕ → ℕ → Bool → Option Fetching
fetch_by false left block history careful = None
fetch_by true left block history careful = under_way left block history careful
