-- The last of some entries that has a name.
use Rattle.std.specs.Prelude.{if◌then◌else◌, List, [], ◌∷◌, Option, Some}
use Rattle.std.specs.Str.{bytes_eq}
use Rattle.c_lex.specs.Bytes.{Bytes}
use Rattle.c_sizes.specs.declared.known.Entry.{Entry}
use Rattle.c_sizes.specs.declared.known.Entry.TheVariants as entry
use Rattle.c_sizes.specs.declared.shape.Shape.{Shape}

-- what an entry says of a name, or else what those before it say
abbrev pub later : Bytes → Entry → Option Shape → Option Shape
later w entry.Block o = o
later w (entry.Name v s) o = if bytes_eq w v then Some s else o

-- what the last of these says, or else those before them
abbrev pub latest : Bytes → List Entry → Option Shape → Option Shape
latest w [] o = o
latest w (e ∷ es) o = latest w es (later w e o)
