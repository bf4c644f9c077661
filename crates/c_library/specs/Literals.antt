-- Units without string literals.
use Rattle.std.specs.Prelude.{Bool, true, ◌&&◌, is_none, [], ◌∷◌}
use Rattle.c_lex.specs.Lexes.{Tokens}
use Rattle.c_lex.specs.Strings.{string_of}

-- is none of the tokens a literal?
abbrev pub has_no_literal : Tokens → Bool
has_no_literal [] = true
has_no_literal (t ∷ ts) = is_none (string_of t.form) && has_no_literal ts
