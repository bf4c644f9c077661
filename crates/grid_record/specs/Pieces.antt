-- Lists that are made piece by piece.
use Rattle.std.specs.Prelude.{ℕ, zero, suc, List, [], ◌++◌}

-- the pieces of the first n numbers, one after another; not an `abbrev`, since a numeral unrolls recursions in goals
unfoldable pub pieces : (ℕ → List ℕ) → ℕ → List ℕ
pieces piece zero = []
pieces piece (suc n) = pieces piece n ++ piece n
