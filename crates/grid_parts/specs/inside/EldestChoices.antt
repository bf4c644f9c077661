-- The eldest of what a station may take, where a frame's number says what it has for the station.
use Rattle.std.specs.Prelude.{ℕ, ◌==◌, ◌&&◌, Bool, List, [], ◌∷◌, Option, Some, None}
use Rattle.operand_net.specs.Marks.{has_bit}
use Rattle.grid_cycle_spec.specs.Stations.{tile_of}
use Rattle.grid_cycle_spec.specs.Choosing.{least, slots}

-- a frame's number beside what was found for it, or what was found behind it
abbrev pub found_for : ℕ → Option ℕ → Option (ℕ × ℕ) → Option (ℕ × ℕ)
found_for n None behind = behind
found_for n (Some k) behind = Some (n, k)

-- the first of some frames for which something is found
abbrev pub first_found : (ℕ → Option ℕ) → List ℕ → Option (ℕ × ℕ)
first_found find [] = None
first_found find (n ∷ ns) = found_for n (find n) (first_found find ns)

-- whether a slot is marked and lies on a tile
abbrev pub is_on : ℕ → ℕ → ℕ → Bool
is_on marks tile s = (tile_of s == tile) && has_bit marks s

-- the lowest marked slot of a tile
abbrev pub lowest_slot : ℕ → ℕ → Option ℕ
lowest_slot marks tile = least (is_on marks tile) slots 0
