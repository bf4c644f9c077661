-- The operand of a `sizeof`, and what stands for both (C17 6.5.3.4).
use Rattle.std.specs.Prelude.{ℕ, Bool, true, false, if◌then◌else◌, [], ◌∷◌, Option, Some, None, take, drop}
use Rattle.c_tree.specs.declared.Form.{Form}
use Rattle.c_tree.specs.declared.Form.TheVariants as form
use Rattle.c_tree.specs.declared.Key.TheVariants as key
use Rattle.c_lex.specs.Lexes.{Tokens}
use Rattle.c_sizes.specs.declared.cut.Rule.{Rule}
use Rattle.c_sizes.specs.declared.cut.Rule.TheVariants as rule
use Rattle.c_sizes.specs.declared.known.Known.{Known}
use Rattle.c_sizes.specs.declared.width.Width.{Width}
use Rattle.c_sizes.specs.Behinds.{reach}
use Rattle.c_sizes.specs.Cuts.{cut}
use Rattle.c_sizes.specs.Objects.{Told, untold, object}
use Rattle.c_sizes.specs.Outcomes.{size}
use Rattle.c_sizes.specs.Values.{value}
use Rattle.c_sizes.specs.Widths.{constant}

-- is the token `sizeof`?
abbrev pub is_sizeof : Form → Bool
is_sizeof (form.Key key.Sizeof) = true
is_sizeof _ = false

-- VALUES

-- how many operators and groups may stand one in another
unfoldable pub most_levels : ℕ
most_levels = 64

-- is it that of a cast?
abbrev pub is_cast : Rule → Bool
is_cast (rule.Cast w) = true
is_cast _ = false

-- Of the operand that these tokens are: no cast may stand without parentheses behind `sizeof` (6.5.3).
abbrev pub whole : Known → Tokens → Option Width
whole k ts = if is_cast (cut ts).0 then None else size (value most_levels k ts)

-- a size, and the tokens behind what has it
abbrev pub Valued : Type 0
Valued = Option (Width × Tokens)

-- with these behind it, if it is known
abbrev pub before : Option Width → Tokens → Valued
before None ts = None
before (Some w) ts = Some (w, ts)

-- of an operand of so many tokens that these begin with
abbrev pub valued_by : Known → ℕ → Tokens → Valued
valued_by k n ts = before (whole k (take n ts)) (drop n ts)

-- of an operand with a value that these tokens begin with
abbrev pub valued : Known → Tokens → Valued
valued k ts = valued_by k (reach ts) ts

-- OPERANDS

-- what stands for the size of a value
abbrev pub by_value : Valued → Told
by_value None = untold
by_value (Some (w, ts)) = (constant w, ts)

-- what is told of an object, or else by its value
abbrev pub or_by_value : Told → Valued → Told
or_by_value ([], ts) v = by_value v
or_by_value (f ∷ fs, ts) v = (f ∷ fs, ts)

-- of an operand that these tokens begin with
abbrev pub told : Known → Tokens → Told
told k ts = or_by_value (object k ts) (valued k ts)
