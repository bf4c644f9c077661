-- The names that are in scope (C17 6.2.1).
use Rattle.std.specs.Prelude.{Bool, true, false, if◌then◌else◌, List, [], ◌∷◌, Option, Some, None}
use Rattle.std.specs.Str.{bytes_eq}
use Rattle.c_tree.specs.declared.Mark.{Mark}
use Rattle.c_tree.specs.declared.Mark.TheVariants as mark
use Rattle.c_lex.specs.Bytes.{Bytes}
use Rattle.c_sizes.specs.declared.known.Entry.{Entry}
use Rattle.c_sizes.specs.declared.known.Entry.TheVariants as entry
use Rattle.c_sizes.specs.declared.known.Known.{Known}
use Rattle.c_sizes.specs.declared.shape.Shape.{Shape}

-- what the first of these entries with this name says
abbrev pub found : Bytes → List Entry → Option Shape
found w [] = None
found w (entry.Block ∷ es) = found w es
found w (entry.Name v s ∷ es) = if bytes_eq w v then Some s else found w es

-- is it the `{` of a block?
abbrev pub is_block : Entry → Bool
is_block entry.Block = true
is_block _ = false

-- without the names of the innermost block
abbrev pub closed : List Entry → List Entry
closed [] = []
closed (e ∷ es) = if is_block e then es else closed es

-- no name
abbrev pub none : Known
none = record { file = []; inner = [] }

-- the first answer, or else the second
abbrev pub or_else : Option Shape → Option Shape → Option Shape
or_else None o = o
or_else (Some s) o = Some s

-- what a name is, if it is in scope: an inner declaration hides an outer one
abbrev pub find : Bytes → Known → Option Shape
find w k = or_else (found w k.inner) (found w k.file)

-- with a name that is declared outside of all brackets, or within
abbrev pub with_name : Bool → Bytes → Shape → Known → Known
with_name true w s k = record k { file = entry.Name w s ∷ k.file }
with_name false w s k = record k { inner = entry.Name w s ∷ k.inner }

-- Behind a `;` or `}`: outside of all brackets it ends a function or its prototype, and so its parameters.
abbrev pub ended : Bool → Known → Known
ended true k = record k { inner = [] }
ended false k = k

-- Behind a punctuator, where nothing is open behind it or something: `{` begins a block, which `}` ends.
abbrev pub past : Bool → Mark → Known → Known
past b mark.LeftBrace k = record k { inner = entry.Block ∷ k.inner }
past b mark.RightBrace k = ended b (record k { inner = closed k.inner })
past b mark.Semicolon k = ended b k
past b _ k = k
