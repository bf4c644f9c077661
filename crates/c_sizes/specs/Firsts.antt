-- What stands first.
use Rattle.std.specs.Prelude.{Bool, true, false, [], ◌∷◌}
use Rattle.c_tree.specs.declared.Mark.{Mark}
use Rattle.c_lex.specs.Lexes.{Tokens}
use Rattle.c_library.specs.Calls.{is_mark}

-- does this punctuator stand first?
abbrev pub begins : Mark → Tokens → Bool
begins m [] = false
begins m (t ∷ ts) = is_mark m t.form

-- the tokens behind the first
abbrev pub rest : Tokens → Tokens
rest [] = []
rest (t ∷ ts) = ts

-- are there no tokens?
abbrev pub is_empty : Tokens → Bool
is_empty [] = true
is_empty (t ∷ ts) = false
