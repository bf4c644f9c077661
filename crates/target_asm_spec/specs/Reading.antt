-- Fields of a line, read from left to right: what a text begins with, and what comes after it.
use Rattle.std.specs.Prelude.{ℕ, ℤ, pos, negsuc}
use Rattle.std.specs.Prelude.{Option, Some, None}
use Rattle.std.specs.Prelude.{nat_lt, if◌then◌else◌}

infixl 10 ◌>>=◌
-- goes on with what was read; where one part is not there, nothing is
abbrev pub ◌>>=◌ : {A B : Type 0} → Option A → (A → Option B) → Option B
None >>= f = None
(Some x) >>= f = f x

-- a number as the number of a field of so many values
unfoldable pub field_in : ℤ → ℕ → Option ℕ
field_in (pos n) values = if nat_lt n values then Some n else None
field_in (negsuc n) values = None
