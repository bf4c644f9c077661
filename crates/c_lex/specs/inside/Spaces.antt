-- The spaces and splices at the front of a text, and what follows them.
use Rattle.std.specs.Prelude.{if◌then◌else◌, [], ◌∷◌}
use Rattle.c_lex.specs.Bytes.{Bytes, in_white}

-- the spaces and splices at the front
abbrev pub spaces : Bytes → Bytes
spaces [] = []
spaces (b ∷ bs) = if in_white b bs then b ∷ spaces bs else []

-- what follows them
abbrev pub after_spaces : Bytes → Bytes
after_spaces [] = []
after_spaces (b ∷ bs) = if in_white b bs then after_spaces bs else b ∷ bs
