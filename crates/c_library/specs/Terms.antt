-- What stands for a conversion (C17 7.21.6.1, paragraphs 6 to 8): a parameter, and a call of one of the library's
-- functions that write (docs/library.c).
use Rattle.std.specs.Prelude.{ℕ, ◌+◌, ◌-◌, ◌%◌, ◌^◌, Bool, not, ◌&&◌, ◌||◌, if◌then◌else◌, nat_eq}
use Rattle.std.specs.Prelude.{List, [], ◌∷◌, ◌++◌, codes, Option, Some, None, is_some}
use Rattle.c_tree.specs.declared.Form.{Form}
use Rattle.c_tree.specs.declared.Form.TheVariants as form
use Rattle.c_tree.specs.declared.Key.{Key}
use Rattle.c_tree.specs.declared.Key.TheVariants as key
use Rattle.c_tree.specs.declared.Kind.TheVariants.{Int}
use Rattle.c_tree.specs.declared.Mark.{Mark}
use Rattle.c_tree.specs.declared.Mark.TheVariants as mark
use Rattle.c_lex.specs.Ascii as ascii
use Rattle.c_lex.specs.Bytes.{Bytes}
use Rattle.c_library.specs.Conversions.{one_of, given, is_signed}
use Rattle.c_library.specs.declared.conversion.Conversion.{Conversion}
use Rattle.c_library.specs.declared.conversion.Size.{Size}
use Rattle.c_library.specs.declared.conversion.Size.TheVariants as size

-- the name of a literal
abbrev pub string_name : Bytes → Bytes
string_name values = ascii.double_quote ∷ values

-- a part more of a list that the mark parts
abbrev pub with_part : Mark → List Form → List Form → List Form
with_part m [] more = more
with_part m (f ∷ fs) more = (f ∷ fs) ++ form.Mark m ∷ more

-- the name of an argument, counted from 0: `a.1` is the first, so that no text can have the name
abbrev pub argument : ℕ → Bytes
argument k = codes "a." ++ (ascii.digit_1 + k) ∷ []

-- a constant of type int, as all numbers of a format are
abbrev pub constant : ℕ → Form
constant v = form.Number (v % 2 ^ 31) Int

-- arguments behind the first, which are constants
abbrev pub constants : List ℕ → List Form
constants [] = []
constants (v ∷ vs) = form.Mark mark.Comma ∷ constant v ∷ constants vs

-- a call with this first argument, and these constants behind it
abbrev pub call : Bytes → Form → List ℕ → List Form
call name first vs =
    form.Name name ∷ form.Mark mark.LeftParen ∷ first ∷ constants vs ++ form.Mark mark.RightParen ∷ []

-- the signed type that a length modifier says (paragraph 7); `char` has a sign
abbrev pub signed_type : Size → Key
signed_type size.Plain = key.Int
signed_type size.Short = key.Short
signed_type size.Char = key.Char
signed_type size.Long = key.Long
signed_type size.Longer = key.Long

-- The parameter of a conversion, counted from 0. Its type is that of the number that is written (paragraph 7), so
-- that the call converts the argument to it.
abbrev pub parameter : ℕ → Conversion → List Form
parameter k c =
    if one_of (codes "s") c.letter then
    form.Key key.Char ∷ form.Name (argument k) ∷ form.Mark mark.LeftBracket ∷ form.Mark mark.RightBracket ∷ []
    else if is_signed c.letter || one_of (codes "c") c.letter then
    form.Key (signed_type c.size) ∷ form.Name (argument k) ∷ []
    else form.Key key.Unsigned ∷ form.Key (signed_type c.size) ∷ form.Name (argument k) ∷ []

-- has it neither flags nor a width nor a precision?
abbrev pub is_bare : Conversion → Bool
is_bare c =
    not (c.left || c.plus || c.space || c.form || c.zero) && nat_eq c.width 0 && not (is_some c.precision)

-- the function that writes numbers or text as they are, by the letter, if there is one
abbrev pub bare_name : ℕ → Option Bytes
bare_name b =
    if is_signed b then Some (codes "print.d")
    else if one_of (codes "u") b then Some (codes "print.u")
    else if one_of (codes "x") b then Some (codes "print.x")
    else if one_of (codes "c") b then Some (codes "print.c")
    else if one_of (codes "s") b then Some (codes "print.s")
    else None

-- What fills the field: `-` stands for spaces behind, and `0` is ignored beside `-` and a precision (paragraph 6).
unfoldable pub fill_of : Conversion → ℕ
fill_of c =
    if c.left then ascii.minus
    else if c.zero && not (is_some c.precision) then ascii.digit_0
    else ascii.space

-- what stands before a number that is not negative: a space is ignored beside `+` (paragraph 6); or nothing
unfoldable pub sign_of : Conversion → ℕ
sign_of c = if c.plus then ascii.plus else if c.space then ascii.space else 0

-- whether the base is shown
unfoldable pub form_of : Conversion → ℕ
form_of c = if c.form then ascii.hash else 0

-- how many digits there are at least (paragraph 8)
abbrev pub least_of : Conversion → ℕ
least_of c = given 1 c.precision

-- how many characters of a string are written at most
abbrev pub most_of : Conversion → ℕ
most_of c = given (2 ^ 31 - 1) c.precision

-- the constants behind the argument in a field: of a signed number, a string, a character, an unsigned number
unfoldable pub signed_values : Conversion → List ℕ
signed_values c = sign_of c ∷ fill_of c ∷ c.width ∷ least_of c ∷ []

unfoldable pub string_values : Conversion → List ℕ
string_values c = fill_of c ∷ c.width ∷ most_of c ∷ []

unfoldable pub character_values : Conversion → List ℕ
character_values c = fill_of c ∷ c.width ∷ []

unfoldable pub unsigned_values : Conversion → List ℕ
unsigned_values c = c.letter ∷ form_of c ∷ fill_of c ∷ c.width ∷ least_of c ∷ []

-- the call that writes the argument in a field
abbrev pub full_call : Form → Conversion → List Form
full_call a c =
    if is_signed c.letter then call (codes "print.signed") a (signed_values c)
    else if one_of (codes "s") c.letter then call (codes "print.string") a (string_values c)
    else if one_of (codes "c") c.letter then call (codes "print.char") a (character_values c)
    else call (codes "print.unsigned") a (unsigned_values c)

-- the call of this function, or one that knows fields
abbrev pub call_by : Option Bytes → Form → Conversion → List Form
call_by (Some name) a c = call name a []
call_by None a c = full_call a c

-- the function that writes the conversion as it is, if there is one
abbrev pub short_name : Conversion → Option Bytes
short_name c = if is_bare c then bare_name c.letter else None

-- the call that writes a conversion, counted from 0
abbrev pub call_of : ℕ → Conversion → List Form
call_of k c = call_by (short_name c) (form.Name (argument k)) c
