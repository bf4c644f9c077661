-- Lists of values with designators, as lists without (C17 6.7.9).
use Rattle.std.specs.Prelude.{ℕ, zero, suc, ◌-◌, Bool, true, false, ◌&&◌, ◌||◌, nat_le, if◌then◌else◌, List, [], ◌∷◌}
use Rattle.std.specs.Prelude.{◌++◌, length, Option, Some, None}
use Rattle.c_tree.specs.declared.Form.{Form}
use Rattle.c_tree.specs.declared.Form.TheVariants as form
use Rattle.c_tree.specs.declared.Mark.TheVariants as mark
use Rattle.c_tree.specs.declared.Lexeme.{Lexeme}
use Rattle.c_lex.specs.Lexes.{Tokens}
use Rattle.c_library.specs.Calls.{is_mark}
use Rattle.c_locals.specs.Brackets.{Parts, split}
use Rattle.c_locals.specs.Declarators.{sized}
use Rattle.c_locals.specs.Elements.{marked, bracketed}
use Rattle.c_locals.specs.Values.{is_name}
use Rattle.c_units.specs.declared.designators.Reading.{Reading}
use Rattle.c_units.specs.declared.entries.Entry.{Entry}
use Rattle.c_units.specs.Entries.{entries, are_good, count_from, elements}

-- WHERE THEY STAND

-- do tokens begin with a `[`?
abbrev pub begins_size : Tokens → Bool
begins_size [] = false
begins_size (t ∷ ts) = is_mark mark.LeftBracket t.form

-- with a `{` and a `[`?
abbrev pub begins_designated : Tokens → Bool
begins_designated [] = false
begins_designated (t ∷ ts) = is_mark mark.LeftBrace t.form && begins_size ts

-- does a designator stand behind the token: a `[` behind a comma, or behind the brace of a value?
abbrev pub designates : Form → Tokens → Bool
designates f ts = (is_mark mark.Comma f && begins_size ts) || (is_mark mark.Assign f && begins_designated ts)

-- behind one of these?
abbrev pub has_designator : Tokens → Bool
has_designator [] = false
has_designator (t ∷ ts) = designates t.form ts || has_designator ts

-- stands one in what stands between the braces of a value?
abbrev pub is_designated : Tokens → Bool
is_designated ts = begins_size ts || has_designator ts

-- ONE LIST

-- has a size, which may be a constant, room for so many values? Of any other one it is not known here.
abbrev pub has_room : Form → ℕ → Bool
has_room (form.Number v k) n = nat_le n v
has_room _ n = true

abbrev pub fits : Tokens → ℕ → Bool
fits (t ∷ []) n = has_room t.form n
fits _ n = true

-- may a list stand without its designators, of these values and with this size or none?
abbrev pub may_stand : Tokens → Tokens → List Entry → Bool
may_stand size values es = is_designated values && (are_good es && fits size (count_from 0 es))

-- `[ SIZE ] = { VALUES }`
abbrev pub list : ℕ → Tokens → Tokens → Tokens
list at size values =
    bracketed at size
    ++ (marked at mark.Assign ++ (marked at mark.LeftBrace ++ (values ++ marked at mark.RightBrace)))

-- what stands in braces behind a `=`, and what behind these
abbrev pub list_at : Tokens → Option Parts
list_at (e ∷ b ∷ ts) =
    if is_mark mark.Assign e.form && is_mark mark.LeftBrace b.form then split mark.RightBrace ts else None
list_at _ = None

-- THE UNIT

-- before the first token
abbrev pub beginning : Reading
beginning = record { out = []; skip = 0 }

-- with a token
abbrev pub to_out : Lexeme → Reading → Reading
to_out t s = record { out = s.out ++ t ∷ []; skip = s.skip }

-- with an array of this name, of which so many tokens follow
abbrev pub with_list : Lexeme → Tokens → List Entry → ℕ → Reading → Reading
with_list n size es k s =
    record { out = s.out ++ n ∷ list n.offset size (elements n.offset es (count_from 0 es)); skip = k }

-- with one or with its name alone
abbrev pub list_if : Lexeme → Tokens → Tokens → List Entry → ℕ → Reading → Reading
list_if n size values es k s = if may_stand size values es then with_list n size es k s else to_out n s

-- with the name of an array with this size, before its list, if that is one
abbrev pub list_by : Lexeme → Tokens → Tokens → Option Parts → Reading → Reading
list_by n ts size None s = to_out n s
list_by n ts size (Some (values, rest)) s = list_if n size values (entries values) (length ts - length rest) s

-- with a name before its size, if that is one
abbrev pub size_by : Lexeme → Tokens → Option Parts → Reading → Reading
size_by n ts None s = to_out n s
size_by n ts (Some (size, behind)) s = list_by n ts size (list_at behind) s

-- with a token of a list that stands without designators
abbrev pub skipped : ℕ → Reading → Reading
skipped k s = record { out = s.out; skip = k }

-- with a token, before these
abbrev pub taken : ℕ → Lexeme → Tokens → Reading → Reading
taken (suc k) t ts s = skipped k s
taken zero t ts s = if is_name t.form then size_by t ts (sized ts) s else to_out t s

-- all tokens, from here on
abbrev pub run : Reading → Tokens → Tokens
run s [] = s.out
run s (t ∷ ts) = run (taken s.skip t ts s) ts

-- A unit no list of which has a designator, where it is the list of an array with one size: a zero stands for each
-- element that is not set before others.
abbrev pub plain : Tokens → Tokens
plain ts = run beginning ts
