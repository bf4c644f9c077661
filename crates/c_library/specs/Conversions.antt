-- Conversion specifications and their parts (C17 7.21.6.1, paragraphs 4 to 8).
use Rattle.std.specs.Prelude.{ℕ, ◌+◌, ◌-◌, ◌*◌, ◌^◌, Bool, true, false, not, ◌&&◌, ◌||◌, if◌then◌else◌, nat_eq}
use Rattle.std.specs.Prelude.{nat_lt, [], ◌∷◌, codes, Option, Some, None, is_some}
use Rattle.c_lex.specs.Ascii as ascii
use Rattle.c_lex.specs.Bytes.{Bytes, is_digit}
use Rattle.c_library.specs.declared.conversion.Conversion.{Conversion}
use Rattle.c_library.specs.declared.conversion.Size.{Size}
use Rattle.c_library.specs.declared.conversion.Size.TheVariants as size

-- is the byte one of these?
abbrev pub one_of : Bytes → ℕ → Bool
one_of [] b = false
one_of (c ∷ cs) b = nat_eq b c || one_of cs b

-- a conversion of which nothing is said yet
abbrev pub nothing_said : Conversion
nothing_said = record {
  left = false;
  plus = false;
  space = false;
  form = false;
  zero = false;
  width = 0;
  precision = None;
  size = size.Plain;
  letter = 0;
}

-- with the flag that the byte is, if it is one (paragraph 6)
abbrev pub with_flag : ℕ → Conversion → Option Conversion
with_flag b c =
    if nat_eq b ascii.minus then Some (record c { left = true })
    else if nat_eq b ascii.plus then Some (record c { plus = true })
    else if nat_eq b ascii.space then Some (record c { space = true })
    else if nat_eq b ascii.hash then Some (record c { form = true })
    else if nat_eq b ascii.digit_0 then Some (record c { zero = true })
    else None

-- the number with a digit more, if the byte is one and the number stays an int
abbrev pub with_digit : ℕ → ℕ → Option ℕ
with_digit b n =
    if is_digit b && nat_lt (10 * n + (b - ascii.digit_0)) (2 ^ 31) then Some (10 * n + (b - ascii.digit_0)) else None

-- with this width
abbrev pub as_width : Conversion → Option ℕ → Option Conversion
as_width c (Some n) = Some (record c { width = n })
as_width c None = None

-- with a digit of the width (paragraph 4)
abbrev pub with_width : ℕ → Conversion → Option Conversion
with_width b c = as_width c (with_digit b c.width)

-- with the point that begins a precision, which is 0 at first
abbrev pub with_point : ℕ → Conversion → Option Conversion
with_point b c = if nat_eq b ascii.point then Some (record c { precision = Some 0 }) else None

-- the number that is there, or this one
abbrev pub given : ℕ → Option ℕ → ℕ
given other (Some n) = n
given other None = other

-- with this precision
abbrev pub as_precision : Conversion → Option ℕ → Option Conversion
as_precision c (Some n) = Some (record c { precision = Some n })
as_precision c None = None

-- with a digit of the precision
abbrev pub with_precision : ℕ → Conversion → Option Conversion
with_precision b c = as_precision c (with_digit b (given 0 c.precision))

-- the letters of the types that are `long` here, each alone
abbrev pub longer : Bytes
longer = codes "jzt"

-- the length modifier behind this one, where the byte goes on with it (paragraph 7)
abbrev pub sized : ℕ → Size → Option Size
sized b size.Plain =
    if one_of (codes "h") b then Some size.Short
    else if one_of (codes "l") b then Some size.Long
    else if one_of longer b then Some size.Longer
    else None
sized b size.Short = if one_of (codes "h") b then Some size.Char else None
sized b size.Char = None
sized b size.Long = if one_of (codes "l") b then Some size.Longer else None
sized b size.Longer = None

-- with this length modifier
abbrev pub as_size : Conversion → Option Size → Option Conversion
as_size c (Some s) = Some (record c { size = s })
as_size c None = None

-- with a letter of the length modifier
abbrev pub with_size : ℕ → Conversion → Option Conversion
with_size b c = as_size c (sized b c.size)

-- the letters of signed numbers (paragraph 8)
abbrev pub is_signed : ℕ → Bool
is_signed b = one_of (codes "di") b

-- the letters of unsigned numbers in a base that `#` shows
abbrev pub is_based : ℕ → Bool
is_based b = one_of (codes "oxX") b

-- has it no length modifier?
abbrev pub is_plain : Size → Bool
is_plain size.Plain = true
is_plain _ = false

-- May text be written so? It has no length modifier, `#` or `0` (paragraphs 6 and 7).
abbrev pub is_text : Conversion → Bool
is_text c = is_plain c.size && not c.form && not c.zero

-- Is it one that C17 defines and the profile has? A character has no precision (paragraph 4).
abbrev pub is_defined : Conversion → Bool
is_defined c =
    if is_based c.letter then true
    else if is_signed c.letter || one_of (codes "u") c.letter then not c.form
    else if one_of (codes "s") c.letter then is_text c
    else if one_of (codes "c") c.letter then is_text c && not (is_some c.precision)
    else false
