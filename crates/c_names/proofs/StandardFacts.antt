-- Worked rows of the definitions (C17 6.5.3.4, 6.7.2.2, 6.7.8, 7.20).
use Rattle.std.proofs.Common.{◌≡◌, ℕ, true, false, List, [], ◌∷◌, ◌++◌, Option, Some, None, codes, refl}
use Rattle.c_tree.specs.declared.Form.{Form}
use Rattle.c_tree.specs.declared.Form.TheVariants as form
use Rattle.c_tree.specs.declared.Key.{Key}
use Rattle.c_tree.specs.declared.Key.TheVariants as key
use Rattle.c_tree.specs.declared.Kind.TheVariants as kind
use Rattle.c_tree.specs.declared.Mark.{Mark}
use Rattle.c_tree.specs.declared.Mark.TheVariants as mark
use Rattle.c_lex.specs.Lexes.{Tokens}
use Rattle.c_library.specs.Places.{tokens}
use Rattle.c_names.specs.declared.piece.Piece.TheVariants as piece
use Rattle.c_names.specs.Headers.{types_of, sizes, definitions}
use Rattle.c_names.specs.Named.{named}
use Rattle.c_names.specs.Pieces.{Pieces}
use Rattle.c_names.specs.Values.{sum}
use Rattle.c_names.specs.Words.{size_of, same_type}

-- tokens by their forms, all at the place 5
abbrev at : List Form → Tokens
at fs = tokens 5 fs

-- a keyword, a name, a constant of type int, a punctuator
abbrev word : Key → Form
word k = form.Key k

abbrev name : ℕ → Form
name b = form.Name (b ∷ [])

abbrev constant : ℕ → Form
constant n = form.Number n kind.Int

abbrev sign : Mark → Form
sign m = form.Mark m

-- the names `T`, `a`, `b`, `c`
abbrev T : Form
T = name 84

abbrev a : Form
a = name 97

abbrev b : Form
b = name 98

abbrev c : Form
c = name 99

-- `T a ;`
abbrev declaration : List Form
declaration = T ∷ a ∷ sign mark.Semicolon ∷ []

-- `typedef long T ;`
abbrev type_named : List Form
type_named = word key.Typedef ∷ word key.Long ∷ T ∷ sign mark.Semicolon ∷ []

-- `typedef long T ; T a ;` is `long a ;`
pub replaced_behind : named (at (type_named ++ declaration))
    ≡ at (word key.Long ∷ a ∷ sign mark.Semicolon ∷ [])
replaced_behind = refl

-- but not behind the block: `{ typedef long T ; } T a ;` is `{ } T a ;`
pub not_behind_block : named (at (sign mark.LeftBrace ∷ type_named ++ sign mark.RightBrace ∷ declaration))
    ≡ at (sign mark.LeftBrace ∷ sign mark.RightBrace ∷ declaration)
not_behind_block = refl

-- `( typedef long T ; T a ;` stays
pub not_in_parens : named (at (sign mark.LeftParen ∷ type_named ++ declaration))
    ≡ at (sign mark.LeftParen ∷ type_named ++ declaration)
not_in_parens = refl

-- `{ a = 7 , b }`
abbrev listed : List Form
listed =
    sign mark.LeftBrace ∷ a ∷ sign mark.Assign ∷ constant 7 ∷ sign mark.Comma ∷ b ∷ sign mark.RightBrace ∷ []

-- `enum { a = 7 , b } ; b` is `8`
pub constants_counted : named (at (word key.Enum ∷ listed ++ sign mark.Semicolon ∷ b ∷ [])) ≡ at (constant 8 ∷ [])
constants_counted = refl

-- `enum T { a = 7 , b } c ; enum T` is `int c ; int`
pub tag_is_int : named
    (at (word key.Enum ∷ T ∷ listed ++ c ∷ sign mark.Semicolon ∷ word key.Enum ∷ T ∷ []))
    ≡ at (word key.Int ∷ c ∷ sign mark.Semicolon ∷ word key.Int ∷ [])
tag_is_int = refl

-- `enum T c` stays, where there is no such tag
pub tag_unknown : named (at (word key.Enum ∷ T ∷ c ∷ [])) ≡ at (word key.Enum ∷ T ∷ c ∷ [])
tag_unknown = refl

-- the sum of `- 1` and 2 is `( ( - 1 ) + 2 )`
pub sum_in_parens : sum (piece.Sign mark.Minus ∷ piece.Constant 1 ∷ []) 2
    ≡ piece.Sign mark.LeftParen ∷ piece.Sign mark.LeftParen ∷ piece.Sign mark.Minus ∷ piece.Constant 1
    ∷ piece.Sign mark.RightParen ∷ piece.Sign mark.Plus ∷ piece.Constant 2 ∷ piece.Sign mark.RightParen ∷ []
sum_in_parens = refl

-- the largest int has none behind it
pub sum_too_large : sum (piece.Constant 2147483647 ∷ []) 1 ≡ []
sum_too_large = refl

-- `sizeof ( int unsigned long )` is 8
pub size_of_long : named
    (at (word key.Sizeof ∷ sign mark.LeftParen ∷ word key.Int ∷ word key.Unsigned ∷ word key.Long
    ∷ sign mark.RightParen ∷ []))
    ≡ at (form.Number 8 kind.ULong ∷ [])
size_of_long = refl

-- `long char` is no type, `long long` one of 8 bytes, and `signed` one of 4
pub long_char : size_of (piece.Word key.Long ∷ piece.Word key.Char ∷ []) ≡ None
long_char = refl

pub long_long : size_of (piece.Word key.Long ∷ piece.Word key.Long ∷ []) ≡ Some 8
long_long = refl

pub signed_alone : size_of (piece.Word key.Signed ∷ []) ≡ Some 4
signed_alone = refl

-- `const` alone is no type, `const long` one of 8 bytes, and `_Bool volatile` one of 1
pub const_alone : size_of (piece.Word key.Const ∷ []) ≡ None
const_alone = refl

pub const_long : size_of (piece.Word key.Const ∷ piece.Word key.Long ∷ []) ≡ Some 8
const_long = refl

pub bool_volatile : size_of (piece.Word key.Bool ∷ piece.Word key.Volatile ∷ []) ≡ Some 1
bool_volatile = refl

-- `unsigned int` and `unsigned` are one type, `char` and `signed char` are not
pub int_unsaid : same_type (piece.Word key.Unsigned ∷ piece.Word key.Int ∷ []) (piece.Word key.Unsigned ∷ []) ≡ true
int_unsaid = refl

pub char_unsigned : same_type (piece.Word key.Char ∷ []) (piece.Word key.Signed ∷ piece.Word key.Char ∷ []) ≡ false
char_unsigned = refl

-- `#include <stdio.h>` and `size_t` are the include and `unsigned long`; that of `<stddef.h>` goes
pub size_is_there : named (at (form.Include ∷ form.Name (codes "size_t") ∷ []))
    ≡ at (form.Include ∷ word key.Unsigned ∷ word key.Long ∷ [])
unfolding sizes
size_is_there = refl

pub header_goes : named (at (form.Name (codes "<stddef.h>") ∷ form.Name (codes "size_t") ∷ []))
    ≡ at (word key.Unsigned ∷ word key.Long ∷ [])
unfolding definitions
header_goes = refl
