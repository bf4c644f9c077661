-- Flags in words of 64 bits, and rows of items with a flag for each, so that a few writes clear a row of any
-- length.
use Rattle.std.specs.Prelude.{ℕ, ◌/◌, ◌%◌, ◌==◌, Bool, List, map}
use Rattle.std.specs.Prelude.{get_or}
use Rattle.std.specs.Int.{bit_at}
use Rattle.std.specs.List.{range_with_len}

-- whether bit i of a word is 1
abbrev pub has_bit : ℕ → ℕ → Bool
has_bit word i = bit_at word i == 1

-- whether flag q of some words, 64 in each, is set
abbrev pub has_flag : List ℕ → ℕ → Bool
has_flag words q = has_bit (get_or words (q / 64) 0) (q % 64)

-- the first n flags of some words; not an `abbrev`, since a numeral unrolls the list in goals
unfoldable pub flags : ℕ → List ℕ → List Bool
flags n words = map (has_flag words) (range_with_len 0 n)
