-- Places that are marked, by the bits of words.
use Rattle.std.specs.Prelude.{ℕ, Bool, ◌==◌}
use Rattle.std.specs.Int.{bit_at}

-- whether a bit of a word is 1
abbrev pub has_bit : ℕ → ℕ → Bool
has_bit word i = bit_at word i == 1
