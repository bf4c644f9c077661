-- Beside what is believed of Read.antt: what reading a file comes to.
use Rattle.std.specs.Prelude.{ℕ, ◌≤◌, length}
use Rattle.trips_requests.specs.declared.loading.Loaded.{Loaded}
use Rattle.trips_requests.specs.declared.loading.Loaded.TheVariants.{Fault, TooLarge, Bytes}

-- what was loaded is within the limit
abbrev pub IsWithin : ℕ → Loaded → Type 0
IsWithin limit Fault = Unit {0}
IsWithin limit TooLarge = Unit {0}
IsWithin limit (Bytes bytes) = length bytes ≤ limit
