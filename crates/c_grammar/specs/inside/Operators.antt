-- Beside what is believed of Operators.antt: the operators of expressions (C17 6.5).
use Rattle.std.specs.Prelude.{ℕ, zero, suc}
use Rattle.c_grammar.specs.Operators.{cast_level}

-- so many levels above a cast
abbrev pub binary_level : ℕ → ℕ
binary_level zero = cast_level
binary_level (suc n) = suc (binary_level n)
