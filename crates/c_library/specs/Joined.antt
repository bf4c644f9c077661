-- String literals side by side are one (C17 5.1.1.2, phase 6; 6.4.5, paragraph 5).
use Rattle.std.specs.Prelude.{ℕ, [], ◌∷◌, ◌++◌, Option, Some}
use Rattle.c_tree.specs.declared.Form.TheVariants as form
use Rattle.c_tree.specs.declared.Lexeme.{Lexeme}
use Rattle.c_lex.specs.Bytes.{Bytes}
use Rattle.c_lex.specs.Lexes.{Tokens}
use Rattle.c_lex.specs.Strings.{string_name, string_of}
use Rattle.c_library.specs.Places.{token}

-- the literal with these values, at this place
abbrev pub literal : ℕ → Bytes → Lexeme
literal at values = token at (form.Name (string_name values))

-- two tokens before others: where both are literals they are one, at the place of the first
abbrev pub joined_by : Option Bytes → Option Bytes → Lexeme → Lexeme → Tokens → Tokens
joined_by (Some v) (Some w) t u us = literal t.offset (v ++ w) ∷ us
joined_by _ _ t u us = t ∷ u ∷ us

-- a token before tokens that are joined
abbrev pub before : Lexeme → Tokens → Tokens
before t [] = t ∷ []
before t (u ∷ us) = joined_by (string_of t.form) (string_of u.form) t u us

-- each run of literals is one
abbrev pub joined : Tokens → Tokens
joined [] = []
joined (t ∷ ts) = before t (joined ts)
