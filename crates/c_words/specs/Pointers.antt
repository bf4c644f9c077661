-- Parameters that are pointers are arrays (C17 6.7.6.3, paragraph 7).
use Rattle.std.specs.Prelude.{ℕ, Bool, true, false, ◌&&◌, ◌||◌, if◌then◌else◌, [], ◌∷◌, ◌++◌, Option, Some, None}
use Rattle.c_tree.specs.declared.Form.{Form}
use Rattle.c_tree.specs.declared.Form.TheVariants as form
use Rattle.c_tree.specs.declared.Key.TheVariants as key
use Rattle.c_tree.specs.declared.Lexeme.{Lexeme}
use Rattle.c_tree.specs.declared.Mark.{Mark}
use Rattle.c_tree.specs.declared.Mark.TheVariants as mark
use Rattle.c_lex.specs.Lexes.{Tokens}
use Rattle.c_library.specs.Calls.{is_mark}
use Rattle.c_library.specs.Places.{token}
use Rattle.c_words.specs.declared.part.Part.{Part}
use Rattle.c_words.specs.declared.part.Part.TheVariants as part
use Rattle.c_words.specs.declared.place.Place.{Place}
use Rattle.c_words.specs.declared.place.Place.TheVariants as place
use Rattle.c_words.specs.Keys.{is_word}
use Rattle.c_words.specs.Ordered.{is_name}
use Rattle.c_words.specs.Places.{Places, here, past}

-- is it a qualifier of a pointer (6.7.3)?
abbrev pub is_qualifier : Form → Bool
is_qualifier (form.Key key.Const) = true
is_qualifier (form.Key key.Volatile) = true
is_qualifier (form.Key key.Restrict) = true
is_qualifier _ = false

-- do the tokens begin with `,` or `)`?
abbrev pub ends : Tokens → Bool
ends [] = false
ends (t ∷ ts) = is_mark mark.Comma t.form || is_mark mark.RightParen t.form

-- a parameter's name, or none, with its end behind it
abbrev pub name_at : Tokens → Option Tokens
name_at [] = None
name_at (t ∷ ts) =
    if is_name t.form && ends ts then Some (t ∷ []) else if ends (t ∷ ts) then Some [] else None

-- that behind a `*` and its qualifiers
abbrev pub pointed : Tokens → Option Tokens
pointed [] = None
pointed (t ∷ ts) = if is_qualifier t.form then pointed ts else name_at (t ∷ ts)

-- is there a name?
abbrev pub is_named : Option Tokens → Bool
is_named None = false
is_named (Some []) = false
is_named (Some (n ∷ ns)) = true

-- May a parameter of this name or none stand directly in these parentheses: those of parameters, or of a prototype in a
-- block, where one without a name may be a cast?
abbrev pub may_point : Place → Option Tokens → Bool
may_point place.Parameters o = true
may_point place.Header o = is_named o
may_point _ o = false

-- is it a keyword of declarations?
abbrev pub is_type : Part → Bool
is_type part.Word = true
is_type _ = false

-- the name of the parameter, if it has one, of which this token is the `*`
abbrev pub pointer : Part → Places → Lexeme → Tokens → Option Tokens
pointer before ps t ts =
    if is_type before && (may_point (here ps) (pointed ts) && is_mark mark.Star t.form) then pointed ts else None

-- what a token is, that begins a pointer of this name or none
abbrev pub begins : Option Tokens → Form → Part
begins (Some ns) f = part.Star
begins None f = if is_word f then part.Word else part.Apart

-- behind the `*` the qualifiers and the name are the pointer's
abbrev pub up_to : Form → Part
up_to f = if is_qualifier f then part.Within else if is_name f then part.Name else part.Apart

-- what a token, before these, is in a parameter, behind a token that is that
abbrev pub part_of : Part → Places → Lexeme → Tokens → Part
part_of part.Star ps t ts = up_to t.form
part_of part.Within ps t ts = up_to t.form
part_of before ps t ts = begins (pointer before ps t ts) t.form

-- a mark as a token at this place
abbrev pub mark_at : ℕ → Mark → Lexeme
mark_at at m = token at (form.Mark m)

-- the name, if there is one, and `[ ]` at the place of the `*`
abbrev pub array_of : Option Tokens → Lexeme → Tokens
array_of None t = t ∷ []
array_of (Some ns) t = ns ++ mark_at t.offset mark.LeftBracket ∷ mark_at t.offset mark.RightBracket ∷ []

-- what stands for a token, before these
abbrev pub stands_for : Part → Lexeme → Tokens → Tokens
stands_for part.Star t ts = array_of (pointed ts) t
stands_for part.Within t ts = []
stands_for part.Name t ts = []
stands_for _ t ts = t ∷ []

-- the tokens from these places on
abbrev pub pointed_from : Part → Places → Tokens → Tokens
pointed_from before ps [] = []
pointed_from before ps (t ∷ ts) =
    stands_for (part_of before ps t ts) t ts ++ pointed_from (part_of before ps t ts) (past t.form ps) ts

-- the tokens of a unit
abbrev pub without_pointers : Tokens → Tokens
without_pointers ts = pointed_from part.Apart [] ts
