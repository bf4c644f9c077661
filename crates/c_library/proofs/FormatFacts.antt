-- Worked rows of the formats of `printf` (C17 7.21.6.1).
use Rattle.std.proofs.Common.{◌≡◌, ℕ, List, [], ◌∷◌, ◌++◌, codes, refl}
use Rattle.std.specs.Prelude.{Some, None}
use Rattle.c_tree.specs.declared.Form.{Form}
use Rattle.c_tree.specs.declared.Form.TheVariants as form
use Rattle.c_tree.specs.declared.Key.TheVariants as key
use Rattle.c_tree.specs.declared.Kind.TheVariants.{Int}
use Rattle.c_tree.specs.declared.Mark.TheVariants as mark
use Rattle.c_lex.specs.Bytes.{Bytes}
use Rattle.c_library.specs.Formats.{printf_name, printf_definition}
use Rattle.c_library.specs.Terms.{signed_values, string_values, unsigned_values, fill_of, sign_of, form_of}

-- `int NAME ( `, these, ` ) { return `, these, ` ; }`
abbrev function : Bytes → List Form → List Form → List Form
function name parameters terms =
    form.Key key.Int ∷ form.Name (printf_name name) ∷ form.Mark mark.LeftParen
    ∷ parameters ++ form.Mark mark.RightParen ∷ form.Mark mark.LeftBrace ∷ form.Key key.Return
    ∷ terms ++ form.Mark mark.Semicolon ∷ form.Mark mark.RightBrace ∷ []

-- a call with one argument
abbrev call : Bytes → Form → List Form
call name a = form.Name name ∷ form.Mark mark.LeftParen ∷ a ∷ form.Mark mark.RightParen ∷ []

-- `, v` and what comes next
abbrev next : ℕ → List Form → List Form
next v fs = form.Mark mark.Comma ∷ form.Number v Int ∷ fs

-- text, an int, a string, and `%%`
pub plain : printf_definition (codes "%d at %s%%")
    ≡ Some (function (codes "%d at %s%%")
    (form.Key key.Int ∷ form.Name (codes "a.1") ∷ form.Mark mark.Comma ∷ form.Key key.Char
    ∷ form.Name (codes "a.2") ∷ form.Mark mark.LeftBracket ∷ form.Mark mark.RightBracket ∷ [])
    (call (codes "print.d") (form.Name (codes "a.1"))
    ++ form.Mark mark.Plus ∷ call (codes "print.s") (form.Name (34 ∷ codes " at "))
    ++ form.Mark mark.Plus ∷ call (codes "print.s") (form.Name (codes "a.2"))
    ++ form.Mark mark.Plus ∷ call (codes "print.c") (form.Number 37 Int)))
unfolding printf_definition
plain = refl

-- the empty format writes nothing
pub empty : printf_definition [] ≡ Some (function [] (form.Key key.Void ∷ []) (form.Number 0 Int ∷ []))
unfolding printf_definition
empty = refl

-- flags, a width, a precision, a length modifier, and `0` that the precision overrides: `+`, spaces, 8, 3
pub field : printf_definition (codes "%0+8.3hhd")
    ≡ Some (function (codes "%0+8.3hhd") (form.Key key.Char ∷ form.Name (codes "a.1") ∷ [])
    (form.Name (codes "print.signed") ∷ form.Mark mark.LeftParen ∷ form.Name (codes "a.1")
    ∷ next 43 (next 32 (next 8 (next 3 (form.Mark mark.RightParen ∷ []))))))
unfolding printf_definition signed_values fill_of sign_of
field = refl

-- an unsigned number in hexadecimal, filled by zeros, of which at least one digit is written
pub based : printf_definition (codes "%#010llX")
    ≡ Some (function (codes "%#010llX")
    (form.Key key.Unsigned ∷ form.Key key.Long ∷ form.Name (codes "a.1") ∷ [])
    (form.Name (codes "print.unsigned") ∷ form.Mark mark.LeftParen ∷ form.Name (codes "a.1")
    ∷ next 88 (next 35 (next 48 (next 10 (next 1 (form.Mark mark.RightParen ∷ [])))))))
unfolding printf_definition unsigned_values fill_of form_of
based = refl

-- at most two characters of a string, to the left of six
pub cut : printf_definition (codes "%-6.2s")
    ≡ Some (function (codes "%-6.2s")
    (form.Key key.Char ∷ form.Name (codes "a.1") ∷ form.Mark mark.LeftBracket ∷ form.Mark mark.RightBracket ∷ [])
    (form.Name (codes "print.string") ∷ form.Mark mark.LeftParen ∷ form.Name (codes "a.1")
    ∷ next 45 (next 6 (next 2 (form.Mark mark.RightParen ∷ [])))))
unfolding printf_definition string_values fill_of
cut = refl

-- no conversion ends with the format
pub lone_percent : printf_definition (codes "50%") ≡ None
unfolding printf_definition
lone_percent = refl

-- `#` of a decimal number, `0` of a string, a length of a character, and a precision of one are undefined
pub form_of_decimal : printf_definition (codes "%#d") ≡ None
unfolding printf_definition
form_of_decimal = refl

pub zero_of_string : printf_definition (codes "%05s") ≡ None
unfolding printf_definition
zero_of_string = refl

pub long_character : printf_definition (codes "%lc") ≡ None
unfolding printf_definition
long_character = refl

pub precision_of_character : printf_definition (codes "%.1c") ≡ None
unfolding printf_definition
precision_of_character = refl

-- of these the profile has none
pub no_star : printf_definition (codes "%*d") ≡ None
unfolding printf_definition
no_star = refl

pub no_double : printf_definition (codes "%f") ≡ None
unfolding printf_definition
no_double = refl

-- a number that is no int is none
pub wide : printf_definition (codes "%2147483648d") ≡ None
unfolding printf_definition
wide = refl

-- nine conversions are too many
pub nine : printf_definition (codes "%d%d%d%d%d%d%d%d%d") ≡ None
unfolding printf_definition
nine = refl
