-- Forms as tokens that all stand at one place of the text.
use Rattle.std.specs.Prelude.{ℕ, List, map}
use Rattle.c_tree.specs.declared.Form.{Form}
use Rattle.c_tree.specs.declared.Lexeme.{Lexeme}
use Rattle.c_lex.specs.Lexes.{Tokens}

-- the form as a token at this place
abbrev pub token : ℕ → Form → Lexeme
token at f = record { offset = at; form = f }

-- each of the forms
abbrev pub tokens : ℕ → List Form → Tokens
tokens at fs = map (token at) fs
