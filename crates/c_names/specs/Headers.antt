-- The types that headers declare (C17 7.19, 7.20), as the words that they are on x86-64 under Linux.
use Rattle.std.specs.Prelude.{Bool, false, ◌||◌, nat_eq, if◌then◌else◌, List, [], ◌∷◌, codes}
use Rattle.std.specs.Str.{bytes_eq}
use Rattle.c_tree.specs.declared.Key.{Key}
use Rattle.c_tree.specs.declared.Key.TheVariants as key
use Rattle.c_lex.specs.Bytes.{Bytes}
use Rattle.c_names.specs.declared.piece.Piece.TheVariants as piece
use Rattle.c_names.specs.declared.scope.Entry.TheVariants as entry
use Rattle.c_names.specs.Pieces.{Pieces}
use Rattle.c_names.specs.Scope.{Scope, less}

-- a name, and the words that it stands for
abbrev pub Row : Type 0
Row = Bytes × Pieces

-- one word, and two
abbrev pub one : Key → Pieces
one k = piece.Word k ∷ []

abbrev pub two : Key → Key → Pieces
two j k = piece.Word j ∷ piece.Word k ∷ []

-- the type of `sizeof`
unfoldable pub sizes : List Row
sizes = (codes "size_t", two key.Unsigned key.Long) ∷ []

-- those of `<stddef.h>`
unfoldable pub definitions : List Row
definitions =
    (codes "size_t", two key.Unsigned key.Long)
    ∷ (codes "ptrdiff_t", one key.Long)
    ∷ (codes "wchar_t", one key.Int)
    ∷ []

-- those of `<stdint.h>`
unfoldable pub integers : List Row
integers =
    (codes "int8_t", two key.Signed key.Char)
    ∷ (codes "int16_t", one key.Short)
    ∷ (codes "int32_t", one key.Int)
    ∷ (codes "int64_t", one key.Long)
    ∷ (codes "uint8_t", two key.Unsigned key.Char)
    ∷ (codes "uint16_t", two key.Unsigned key.Short)
    ∷ (codes "uint32_t", two key.Unsigned key.Int)
    ∷ (codes "uint64_t", two key.Unsigned key.Long)
    ∷ (codes "int_least8_t", two key.Signed key.Char)
    ∷ (codes "int_least16_t", one key.Short)
    ∷ (codes "int_least32_t", one key.Int)
    ∷ (codes "int_least64_t", one key.Long)
    ∷ (codes "uint_least8_t", two key.Unsigned key.Char)
    ∷ (codes "uint_least16_t", two key.Unsigned key.Short)
    ∷ (codes "uint_least32_t", two key.Unsigned key.Int)
    ∷ (codes "uint_least64_t", two key.Unsigned key.Long)
    ∷ (codes "int_fast8_t", two key.Signed key.Char)
    ∷ (codes "int_fast16_t", one key.Long)
    ∷ (codes "int_fast32_t", one key.Long)
    ∷ (codes "int_fast64_t", one key.Long)
    ∷ (codes "uint_fast8_t", two key.Unsigned key.Char)
    ∷ (codes "uint_fast16_t", two key.Unsigned key.Long)
    ∷ (codes "uint_fast32_t", two key.Unsigned key.Long)
    ∷ (codes "uint_fast64_t", two key.Unsigned key.Long)
    ∷ (codes "intptr_t", one key.Long)
    ∷ (codes "uintptr_t", two key.Unsigned key.Long)
    ∷ (codes "intmax_t", one key.Long)
    ∷ (codes "uintmax_t", two key.Unsigned key.Long)
    ∷ []

-- is it the token of a header, other than `<stdio.h>`?
abbrev pub is_header : Bytes → Bool
is_header [] = false
is_header (b ∷ bs) = nat_eq b less

-- does the header's token go, since it has nothing beside types?
abbrev pub goes : Bytes → Bool
goes w = bytes_eq w (codes "<stddef.h>") || bytes_eq w (codes "<stdint.h>")

-- does it have `size_t` alone?
abbrev pub has_sizes : Bytes → Bool
has_sizes w = bytes_eq w (codes "<stdlib.h>") || bytes_eq w (codes "<string.h>")

-- the types of the header
abbrev pub types_of : Bytes → List Row
types_of w =
    if bytes_eq w (codes "<stdint.h>") then integers
    else if bytes_eq w (codes "<stddef.h>") then definitions
    else if has_sizes w then sizes
    else []

-- with these declared
abbrev pub with_types : List Row → Scope → Scope
with_types [] es = es
with_types (r ∷ rs) es = with_types rs (entry.Name r.0 r.1 ∷ es)
