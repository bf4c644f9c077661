-- How names are kept.
use Rattle.std.specs.Prelude.{◌≡◌, List}
use Rattle.std.specs.HashSet.{HashSet, contains}
use Rattle.std.specs.Str.{bytes_eq}
use Rattle.c_lex.specs.Bytes.{Bytes}
use Rattle.c_words.specs.Names.{is_among}

-- a set has the names of a list and no others
abbrev pub Agree : {S : Type 0} → List Bytes → HashSet Bytes S → Type 0
Agree ws s = (w : Bytes) → contains bytes_eq s w ≡ is_among w ws
