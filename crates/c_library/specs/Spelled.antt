-- The tokens of a definition of the library, spelled as words with a blank between two.
use Rattle.std.specs.Prelude.{ℕ, ◌+◌, ◌*◌, ◌-◌, ◌%◌, nat_eq, if◌then◌else◌, List, [], ◌∷◌, ◌++◌, Option, Some, None}
use Rattle.std.specs.Prelude.{codes}
use Rattle.std.specs.Str.{bytes_eq}
use Rattle.c_tree.specs.declared.Form.{Form}
use Rattle.c_tree.specs.declared.Form.TheVariants as form
use Rattle.c_tree.specs.declared.Key.{Key}
use Rattle.c_tree.specs.declared.Kind.TheVariants.{Int}
use Rattle.c_tree.specs.declared.Mark.{Mark}
use Rattle.c_lex.specs.Ascii as ascii
use Rattle.c_lex.specs.Bytes.{Bytes, is_digit}
use Rattle.c_lex.specs.Tables.{lookup, keywords, marks}

-- the number that the digits behind it make of this one, modulo 2^31, so that it is an int
abbrev pub decimal : ℕ → Bytes → ℕ
decimal n [] = n
decimal n (b ∷ bs) = decimal ((10 * n + (b - ascii.digit_0)) % 2147483648) bs

-- the word of the token that stands for an include of `<stdio.h>`
abbrev pub include_word : Bytes
include_word = codes "#include"

-- that token, or else the name
abbrev pub of_name : Bytes → Form
of_name w = if bytes_eq w include_word then form.Include else form.Name w

-- the keyword, the punctuator, or else the name
abbrev pub of_these : Bytes → Option Key → Option Mark → Form
of_these w (Some k) m = form.Key k
of_these w None (Some m) = form.Mark m
of_these w None None = of_name w

-- the token that the word is: a number of type int where it begins with a digit
abbrev pub word_form : Bytes → Form
word_form [] = form.Name []
word_form (b ∷ bs) =
    if is_digit b then form.Number (decimal 0 (b ∷ bs)) Int
    else of_these (b ∷ bs) (lookup (b ∷ bs) keywords) (lookup (b ∷ bs) marks)

-- the tokens of the text, whose first word begins with these bytes
abbrev pub forms_from : Bytes → Bytes → List Form
forms_from w [] = word_form w ∷ []
forms_from w (b ∷ bs) =
    if nat_eq b ascii.space then word_form w ∷ forms_from [] bs else forms_from (w ++ b ∷ []) bs

-- the tokens of the text
abbrev pub forms_of : Bytes → List Form
forms_of text = forms_from [] text
