-- String literals that initialise an array are lists in braces (C17 6.7.9, paragraph 14).
use Rattle.std.specs.Prelude.{ℕ, ◌%◌, Bool, true, false, not, ◌&&◌, ◌||◌, List, [], ◌∷◌, ◌++◌, Option, Some}
use Rattle.c_tree.specs.declared.Form.{Form}
use Rattle.c_tree.specs.declared.Form.TheVariants as form
use Rattle.c_tree.specs.declared.Kind.TheVariants as kind
use Rattle.c_tree.specs.declared.Mark.{Mark}
use Rattle.c_tree.specs.declared.Mark.TheVariants as mark
use Rattle.c_tree.specs.declared.Lexeme.{Lexeme}
use Rattle.c_lex.specs.Bytes.{Bytes}
use Rattle.c_lex.specs.Lexes.{Tokens}
use Rattle.c_lex.specs.Strings.{string_of}
use Rattle.c_library.specs.declared.place.Place.{Place}
use Rattle.c_library.specs.Places.{tokens}

-- WHERE THEY STAND

-- before the first token
abbrev pub beginning : Place
beginning = record { is_behind_equals = false; brackets = [] }

-- is the innermost bracket that is open a brace of an initialiser?
abbrev pub in_list : List Bool → Bool
in_list [] = false
in_list (b ∷ bs) = b

-- the brackets around the innermost one
abbrev pub around : List Bool → List Bool
around [] = []
around (b ∷ bs) = bs

-- The brackets that are open behind a punctuator: a brace is one of an initialiser where it stands behind `=`, or
-- within such a brace.
abbrev pub open_behind : Mark → Place → List Bool
open_behind mark.LeftBrace p = (p.is_behind_equals || in_list p.brackets) ∷ p.brackets
open_behind mark.LeftParen p = false ∷ p.brackets
open_behind mark.LeftBracket p = false ∷ p.brackets
open_behind mark.RightBrace p = around p.brackets
open_behind mark.RightParen p = around p.brackets
open_behind mark.RightBracket p = around p.brackets
open_behind _ p = p.brackets

-- is it `=`?
abbrev pub is_equals : Mark → Bool
is_equals mark.Assign = true
is_equals _ = false

-- the place behind a token
abbrev pub past : Form → Place → Place
past (form.Mark m) p = record { is_behind_equals = is_equals m; brackets = open_behind m p }
past _ p = record p { is_behind_equals = false }

-- do the tokens begin with `[`, so that what stands before them is an operand?
abbrev pub is_left_bracket : Form → Bool
is_left_bracket (form.Mark mark.LeftBracket) = true
is_left_bracket _ = false

abbrev pub begins_index : Tokens → Bool
begins_index [] = false
begins_index (t ∷ ts) = is_left_bracket t.form

-- does a literal, at this place and before these tokens, initialise an array?
abbrev pub initialises : Place → Tokens → Bool
initialises p ts = (p.is_behind_equals || in_list p.brackets) && not (begins_index ts)

-- WHAT THEY ARE

-- a constant of type int that is a byte
abbrev pub value : ℕ → Form
value b = form.Number (b % 256) kind.Int

-- the values and the 0 that ends them, up to the brace
abbrev pub listed : Bytes → List Form
listed [] = value 0 ∷ form.Mark mark.RightBrace ∷ []
listed (b ∷ bs) = value b ∷ form.Mark mark.Comma ∷ listed bs

-- the list in braces
abbrev pub braces : Bytes → List Form
braces values = form.Mark mark.LeftBrace ∷ listed values

-- what stands for a token, where it is a literal with these values or none, and would initialise an array or not
abbrev pub stands_for : Option Bytes → Bool → Lexeme → Tokens
stands_for (Some values) true t = tokens t.offset (braces values)
stands_for _ _ t = t ∷ []

-- the tokens from this place on, with lists in braces for the literals that initialise an array
abbrev pub initialised : Place → Tokens → Tokens
initialised p [] = []
initialised p (t ∷ ts) = stands_for (string_of t.form) (initialises p ts) t ++ initialised (past t.form p) ts
