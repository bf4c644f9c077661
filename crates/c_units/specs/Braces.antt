-- Values that may stand in braces (C17 6.7.9).
use Rattle.std.specs.Prelude.{Bool, true, false, ◌&&◌, ◌||◌, if◌then◌else◌, [], ◌∷◌, Option, Some, None}
use Rattle.c_tree.specs.declared.Form.{Form}
use Rattle.c_tree.specs.declared.Key.TheVariants as key
use Rattle.c_tree.specs.declared.Mark.TheVariants as mark
use Rattle.c_lex.specs.Lexes.{Tokens}
use Rattle.c_library.specs.Calls.{is_mark}
use Rattle.c_locals.specs.Brackets.{Parts, split}
use Rattle.c_locals.specs.Declarators.{braced}
use Rattle.c_words.specs.Keys.{is_key}

-- what stands before the comma, if there is one, and nothing behind it
abbrev pub only_by : Tokens → Option Parts → Option Tokens
only_by ts None = Some ts
only_by ts (Some (a, [])) = Some a
only_by ts (Some (a, t ∷ b)) = None

-- the only value in braces, behind which a comma may stand
abbrev pub only_of : Option Tokens → Option Tokens
only_of None = None
only_of (Some ts) = only_by ts (split mark.Comma ts)

abbrev pub only : Tokens → Option Tokens
only value = only_of (braced value)

-- do tokens begin with this punctuator?
abbrev pub begins_list : Tokens → Bool
begins_list [] = false
begins_list (t ∷ ts) = is_mark mark.LeftBrace t.form

-- a value, if it is a list itself
abbrev pub list_of : Option Tokens → Option Tokens
list_of None = None
list_of (Some ts) = if begins_list ts then Some ts else None

-- is one of the words `char`?
abbrev pub has_char : Tokens → Bool
has_char [] = false
has_char (t ∷ ts) = is_key key.Char t.form || has_char ts

-- does nothing stand behind the size?
abbrev pub is_last : Option Parts → Bool
is_last None = false
is_last (Some (a, [])) = true
is_last (Some (a, t ∷ b)) = false

-- is it one size?
abbrev pub is_one_size : Tokens → Bool
is_one_size [] = false
is_one_size (t ∷ ts) = is_mark mark.LeftBracket t.form && is_last (split mark.RightBracket ts)

-- What stands for a value of an object with these words and these sizes, if its braces go: a scalar may have them
-- (paragraph 11), and a literal that sets an array of a char type (paragraph 14), which is a list by now.
abbrev pub unbraced : Tokens → Tokens → Tokens → Option Tokens
unbraced ws [] value = only value
unbraced ws (t ∷ ts) value = if has_char ws && is_one_size (t ∷ ts) then list_of (only value) else None
