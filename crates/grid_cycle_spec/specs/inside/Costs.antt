-- Beside what is believed of Costs.antt: how long operations take, and what a block may cost in cycles
-- (docs/GRID.md, "Time" and "Cost").
use Rattle.std.specs.Prelude.{ℕ}

-- the greatest latency
abbrev pub longest : ℕ
longest = 24
