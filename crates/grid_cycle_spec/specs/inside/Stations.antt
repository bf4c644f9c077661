-- Beside what is believed of Stations.antt: where the stations of the grid stand on the mesh, and which of them
-- serves what (docs/GRID.md, "Stations").
use Rattle.std.specs.Prelude.{ℕ, ◌+◌, ◌-◌, ◌/◌, ◌%◌}

-- how far two numbers are apart
abbrev pub apart : ℕ → ℕ → ℕ
apart a b = (a - b) + (b - a)

-- how many links a parcel takes from a node to another, at most eight: along the row, then along the column
abbrev pub far : ℕ → ℕ → ℕ
far from to = apart (from % 5) (to % 5) + apart (from / 5) (to / 5)
