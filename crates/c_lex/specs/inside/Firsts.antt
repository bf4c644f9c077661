-- What a piece may be, by its first byte.
use Rattle.std.specs.Prelude.{ℕ, Bool, true, false, not, ◌&&◌, ◌||◌, if◌then◌else◌, nat_eq, List}
use Rattle.std.specs.Prelude.{[], ◌∷◌, length, Option, Some, None}
use Rattle.c_tree.specs.declared.Mark.{Mark}
use Rattle.c_lex.specs.declared.first.First.{First}
use Rattle.c_lex.specs.declared.first.First.TheVariants as first
use Rattle.c_lex.specs.Ascii as ascii
use Rattle.c_lex.specs.Bytes.{Bytes, is_space, is_letter, is_digit}
use Rattle.c_lex.specs.Tables.{lookup, marks}
use Rattle.c_lex.specs.Pieces.{begins_with}

-- does none of the rows with more than one byte begin with it?
abbrev pub none_longer : {A : Type 0} → ℕ → List (Bytes × A) → Bool
none_longer b [] = true
none_longer b (row ∷ rows) =
    (nat_eq (length row.0) 1 || not (begins_with b row.0)) && none_longer b rows

-- a byte that is this mark, or none
abbrev pub of_mark : ℕ → Option Mark → First
of_mark b None = first.Other
of_mark b (Some m) = if none_longer b marks then first.Only m else first.Begins m

-- what a piece may be that begins with the byte
abbrev pub first_of : ℕ → First
first_of b =
    if is_space b then first.Space
    else if is_letter b then first.Letter
    else if is_digit b then first.Digit
    else if nat_eq b ascii.quote then first.Quote
    else if nat_eq b ascii.double_quote then first.DoubleQuote
    else if nat_eq b ascii.hash then first.Hash
    else if nat_eq b ascii.backslash then first.Backslash
    else of_mark b (lookup (b ∷ []) marks)

-- may a word go on with a byte of this class?
abbrev pub goes_on_word : First → Bool
goes_on_word first.Letter = true
goes_on_word first.Digit = true
goes_on_word _ = false
