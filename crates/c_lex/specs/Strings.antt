-- String literals (C17 6.4.5): what stands between the two `"`, and the token.
use Rattle.std.specs.Prelude.{◌≡◌, ℕ, Bool, true, false, not, ◌&&◌, ◌||◌, if◌then◌else◌, nat_eq, nat_lt}
use Rattle.std.specs.Prelude.{[], ◌∷◌, ◌++◌, length, Option, Some, None}
use Rattle.c_tree.specs.declared.Form.{Form}
use Rattle.c_tree.specs.declared.Form.TheVariants as form
use Rattle.c_lex.specs.Ascii as ascii
use Rattle.c_lex.specs.Bytes.{Bytes, within}
use Rattle.c_lex.specs.Constants.{Character, is_digit_in}

-- a byte that stands for itself: a printable character of ASCII other than `"` and `\`, a tab, and each byte that is
-- none of ASCII
abbrev pub is_ordinary : ℕ → Bool
is_ordinary b =
    (within ascii.space ascii.tilde b && not (nat_eq b ascii.double_quote || nat_eq b ascii.backslash))
    || (nat_eq b ascii.tab || within 128 255 b)

-- May an escape go on with this byte, that has these behind its `\`? Up to three octal digits make one, and any
-- number of hexadecimal digits.
abbrev pub takes : Bytes → ℕ → Bool
takes [] b = false
takes (c ∷ cs) b =
    if nat_eq c ascii.lower_x then is_digit_in 16 b
    else is_digit_in 8 c && (nat_lt (length cs) 2 && is_digit_in 8 b)

-- does it go on with the first of these?
abbrev pub goes_on : Bytes → Bytes → Bool
goes_on c [] = false
goes_on c (b ∷ bs) = takes c b

-- What stands between the two `"`, and its values. Each escape sequence is one of a character constant, and takes as
-- many digits as it may.
pub data Characters : Bytes → Bytes → Type 0 where
  none : Characters [] []
  ordinary : {b : ℕ} {bs vs : Bytes} → is_ordinary b ≡ true → Characters bs vs → Characters (b ∷ bs) (b ∷ vs)
  escaped : {c bs vs : Bytes} {v : ℕ} → Character (ascii.backslash ∷ c) v → goes_on c bs ≡ false
      → Characters bs vs → Characters (ascii.backslash ∷ c ++ bs) (v ∷ vs)

-- The name of a literal: `"`, and behind it its values, each a byte, without the 0 that ends them. No word of a text
-- begins so.
abbrev pub string_name : Bytes → Bytes
string_name values = ascii.double_quote ∷ values

-- the values of the literal with this name
abbrev pub string_named : Bytes → Option Bytes
string_named [] = None
string_named (b ∷ values) = if nat_eq b ascii.double_quote then Some values else None

-- the values of the literal that the token is, if it is one
abbrev pub string_of : Form → Option Bytes
string_of (form.Name w) = string_named w
string_of _ = None
