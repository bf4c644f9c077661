-- Sizes that one declaration of an array leaves out and another one has (C17 6.2.7, paragraph 4).
use Rattle.std.specs.Prelude.{Bool, true, false, not, ◌&&◌, ◌||◌, if◌then◌else◌, List, [], ◌∷◌, ◌++◌, Option}
use Rattle.std.specs.Prelude.{Some, None, is_some}
use Rattle.c_tree.specs.declared.Mark.TheVariants as mark
use Rattle.c_lex.specs.Lexes.{Tokens}
use Rattle.c_library.specs.Calls.{is_mark}
use Rattle.c_locals.specs.Brackets.{Parts, split}
use Rattle.c_units.specs.declared.objects.Declaration.{Declaration}
use Rattle.c_units.specs.Objects.{has_value, is_any}
use Rattle.c_units.specs.Same.{same_tokens}

-- the tokens behind a `]` that stands first
abbrev pub behind_end : Tokens → Option Tokens
behind_end [] = None
behind_end (t ∷ ts) = if is_mark mark.RightBracket t.form then Some ts else None

-- do tokens begin with a `]`?
abbrev pub begins_end : Tokens → Bool
begins_end ts = is_some (behind_end ts)

-- is a size left out?
abbrev pub is_open : Tokens → Bool
is_open [] = false
is_open (t ∷ ts) = (is_mark mark.LeftBracket t.form && begins_end ts) || is_open ts

-- do these stand behind a `]`, and behind a size and its `]` too?
abbrev pub same_behind : Option Tokens → Option Parts → Bool
same_behind (Some ts) (Some (size, us)) = is_any size && same_tokens ts us
same_behind _ _ = false

-- Are these one before the first `[`, and behind the first size, which the former leave out and the latter have?
abbrev pub same_but_size : Option Parts → Option Parts → Bool
same_but_size (Some (a, x)) (Some (b, y)) =
    same_tokens a b && same_behind (behind_end x) (split mark.RightBracket y)
same_but_size _ _ = false

-- are the type and the name of an object, with this size that is left out, completed by those (6.2.7)?
abbrev pub is_completed : Tokens → Tokens → Bool
is_completed h g = same_but_size (split mark.LeftBracket h) (split mark.LeftBracket g)

-- what the first of these declarations that completes them has, or else they themselves
abbrev pub whole_head : List Declaration → Tokens → Tokens
whole_head [] h = h
whole_head (d ∷ ds) h = if is_completed h d.head then d.head else whole_head ds h

-- A declaration, with the size that it leaves out, if one of these has it. One with values has as many elements.
abbrev pub completed : List Declaration → Declaration → Declaration
completed all d = if is_open d.head && not (has_value d) then record d { head = whole_head all d.head } else d

-- and each of these, behind others
abbrev pub completed_from : List Declaration → List Declaration → List Declaration → List Declaration
completed_from all got [] = got
completed_from all got (d ∷ ds) = completed_from all (got ++ completed all d ∷ []) ds
