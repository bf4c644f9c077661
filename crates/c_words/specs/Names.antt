-- Lists of names.
use Rattle.std.specs.Prelude.{Bool, false, ◌||◌, List, [], ◌∷◌}
use Rattle.std.specs.Str.{bytes_eq}
use Rattle.c_lex.specs.Bytes.{Bytes}

-- is the name one of these?
abbrev pub is_among : Bytes → List Bytes → Bool
is_among w [] = false
is_among w (v ∷ vs) = bytes_eq v w || is_among w vs
