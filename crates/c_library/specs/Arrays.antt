-- String literals that are names of arrays of char (C17 6.4.5, paragraph 6).
use Rattle.std.specs.Prelude.{ℕ, Bool, true, false, if◌then◌else◌, List, [], ◌∷◌, ◌++◌, Option, Some, Result}
use Rattle.std.specs.Str.{bytes_eq}
use Rattle.c_tree.specs.declared.Form.{Form}
use Rattle.c_tree.specs.declared.Form.TheVariants as form
use Rattle.c_tree.specs.declared.Key.TheVariants as key
use Rattle.c_tree.specs.declared.Mark.TheVariants as mark
use Rattle.c_tree.specs.declared.Lexeme.{Lexeme}
use Rattle.c_lex.specs.Bytes.{Bytes}
use Rattle.c_lex.specs.Lexes.{Tokens}
use Rattle.c_lex.specs.Strings.{string_of, string_name}
use Rattle.c_library.specs.declared.fault.LibraryFault.{LibraryFault}
use Rattle.c_library.specs.declared.place.Place.{Place}
use Rattle.c_library.specs.Initialisers.{beginning, past, initialises, braces, initialised}
use Rattle.c_library.specs.Places.{tokens}
use Rattle.c_library.specs.Within.{within}

-- which literals have an array, by their values
abbrev pub Known : Type 0
Known = Bytes → Bool

-- none
abbrev pub none_known : Known
none_known w = false

-- those, and this one
abbrev pub and_known : Bytes → Known → Known
and_known v known w = if bytes_eq v w then true else known w

-- the tokens before the list in braces: `char`, the name, `[ ] =`
abbrev pub declares : Bytes → List Form
declares values =
    form.Key key.Char
    ∷ form.Name (string_name values)
    ∷ form.Mark mark.LeftBracket
    ∷ form.Mark mark.RightBracket
    ∷ form.Mark mark.Assign
    ∷ []

-- the definition of the array of a literal with these values, each of its tokens at this place
abbrev pub array : ℕ → Bytes → Tokens
array at values =
    tokens at (declares values) ++ (tokens at (braces values) ++ tokens at (form.Mark mark.Semicolon ∷ []))

-- that of a token which is a literal with these values and initialises no array, unless it has one
abbrev pub array_for : Option Bytes → Bool → Known → Lexeme → Tokens
array_for (Some values) false known t = if known values then [] else array t.offset values
array_for _ _ known t = []

-- the literals that have an array behind such a token
abbrev pub known_behind : Option Bytes → Bool → Known → Known
known_behind (Some values) false known = and_known values known
known_behind _ _ known = known

-- the definitions for these tokens from this place on
abbrev pub arrays : Known → Place → Tokens → Tokens
arrays known p [] = []
arrays known p (t ∷ ts) =
    array_for (string_of t.form) (initialises p ts) known t
    ++ arrays (known_behind (string_of t.form) (initialises p ts) known) (past t.form p) ts

-- A unit without literals: lists in braces stand for those that initialise an array, and the others are names of
-- arrays, whose definitions stand in front of the unit, each once.
abbrev pub with_strings : ℕ → Tokens → Result Tokens LibraryFault
with_strings most ts = within most (arrays none_known beginning ts ++ initialised beginning ts)
