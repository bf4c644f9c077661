-- The unit that declares each object once, and functions outside of blocks.
use Rattle.std.specs.Prelude.{Bool, if◌then◌else◌}
use Rattle.c_lex.specs.Lexes.{Tokens}
use Rattle.c_units.specs.Designators.{plain}
use Rattle.c_units.specs.Joined.{joined}
use Rattle.c_units.specs.Raised.{raised}
use Rattle.c_units.specs.Repeats.{has_no_repeats}

-- is there nothing to settle?
abbrev pub is_settled : Tokens → Bool
is_settled ts = has_no_repeats ts

-- A unit whose declarations are settled: lists of values have no designators, prototypes stand outside of blocks, each
-- object there is declared once, and its value stands in braces only where the grammar has them.
abbrev pub settled : Tokens → Tokens
settled ts = if is_settled ts then ts else joined (raised (plain ts))
