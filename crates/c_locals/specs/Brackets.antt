-- Tokens outside of brackets.
use Rattle.std.specs.Prelude.{ℕ, ◌+◌, ◌-◌, Bool, ◌&&◌, nat_eq, if◌then◌else◌, List, [], ◌∷◌, Option, Some, None}
use Rattle.c_tree.specs.declared.Form.{Form}
use Rattle.c_tree.specs.declared.Form.TheVariants as form
use Rattle.c_tree.specs.declared.Mark.{Mark}
use Rattle.c_tree.specs.declared.Mark.TheVariants as mark
use Rattle.c_tree.specs.declared.Lexeme.{Lexeme}
use Rattle.c_lex.specs.Lexes.{Tokens}
use Rattle.c_library.specs.Calls.{is_mark}

-- how many brackets of all three kinds are open behind a punctuator
abbrev pub depth_by : Mark → ℕ → ℕ
depth_by mark.LeftParen d = d + 1
depth_by mark.LeftBracket d = d + 1
depth_by mark.LeftBrace d = d + 1
depth_by mark.RightParen d = d - 1
depth_by mark.RightBracket d = d - 1
depth_by mark.RightBrace d = d - 1
depth_by _ d = d

-- and behind a token
abbrev pub depth_past : Form → ℕ → ℕ
depth_past (form.Mark m) d = depth_by m d
depth_past _ d = d

-- does the token, with so many brackets open before it, divide tokens as this punctuator does?
abbrev pub divides : Mark → ℕ → Lexeme → Bool
divides m d t = nat_eq d 0 && is_mark m t.form

-- two parts of tokens
abbrev pub Parts : Type 0
Parts = Tokens × Tokens

-- the parts, with this token in front
abbrev pub in_front : Lexeme → Option Parts → Option Parts
in_front t None = None
in_front t (Some (before, behind)) = Some (t ∷ before, behind)

-- the tokens before the punctuator, and those behind it, where so many brackets are open
abbrev pub split_from : Mark → ℕ → Tokens → Option Parts
split_from m d [] = None
split_from m d (t ∷ ts) =
    if divides m d t then Some ([], ts) else in_front t (split_from m (depth_past t.form d) ts)

-- the tokens before the first such punctuator outside of brackets, and those behind it
abbrev pub split : Mark → Tokens → Option Parts
split m ts = split_from m 0 ts

-- the pieces, with this token in front of the first
abbrev pub before_first : Lexeme → List Tokens → List Tokens
before_first t [] = (t ∷ []) ∷ []
before_first t (p ∷ ps) = (t ∷ p) ∷ ps

-- the pieces, where so many brackets are open
abbrev pub pieces_from : ℕ → Tokens → List Tokens
pieces_from d [] = [] ∷ []
pieces_from d (t ∷ ts) =
    if divides mark.Comma d t then [] ∷ pieces_from 0 ts
    else before_first t (pieces_from (depth_past t.form d) ts)

-- the pieces between the commas outside of brackets
abbrev pub pieces : Tokens → List Tokens
pieces ts = pieces_from 0 ts

-- the pieces behind a comma, if there is one
abbrev pub further_pieces : Option Tokens → List Tokens
further_pieces None = []
further_pieces (Some ts) = pieces ts
