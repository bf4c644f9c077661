-- Beside what is believed of TrapCauses.antt: the causes of traps and their numbers, by which marks and reports
-- tell them.
use Rattle.std.specs.Prelude.{ℕ}
use Rattle.trips_isa.specs.declared.causes.TrapCause.{TrapCause}
use Rattle.trips_isa.specs.TrapCauses.{number_of, no_mark}

-- a mark is none, or the number of a cause
pub data IsMark : ℕ → Type 0 where
  Unmarked : IsMark no_mark
  Marked : (c : TrapCause) → IsMark (number_of c)
