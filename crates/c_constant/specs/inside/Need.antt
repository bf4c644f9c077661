-- Beside what is believed of Need.antt: how many temporaries an expression needs, if operands are computed from
-- left to right.
use Rattle.std.specs.Prelude.{ℕ, min, Option, Some, None}

-- a need as the code counts it: no further than 17
abbrev pub capped : ℕ → ℕ
capped n = min n 17

-- the same where there is a need
abbrev pub capped_if : Option ℕ → Option ℕ
capped_if None = None
capped_if (Some n) = Some (capped n)
