-- The items of a unit (C17 6.9), each with its last token.
use Rattle.std.specs.Prelude.{Bool, true, false, not, ◌&&◌, ◌||◌, nat_eq, if◌then◌else◌, List, [], ◌∷◌, ◌++◌}
use Rattle.c_tree.specs.declared.Form.{Form}
use Rattle.c_tree.specs.declared.Mark.TheVariants as mark
use Rattle.c_tree.specs.declared.Lexeme.{Lexeme}
use Rattle.c_lex.specs.Lexes.{Tokens}
use Rattle.c_library.specs.Calls.{is_mark}
use Rattle.c_locals.specs.Brackets.{depth_past}
use Rattle.c_locals.specs.Stages.{is_include}
use Rattle.c_units.specs.declared.cuts.Place.{Place}
use Rattle.c_units.specs.declared.cuts.Cut.{Cut}

-- before the first token of an item
abbrev pub start : Place
start = record { depth = 0; has_value = false }

-- behind a token of it: a `=` outside of brackets begins a value
abbrev pub past : Form → Place → Place
past f p =
    record {
      depth = depth_past f p.depth;
      has_value = p.has_value || (nat_eq p.depth 0 && is_mark mark.Assign f);
    }

-- does an item end with the token behind which that is known? The brace that closes a list of values does not end it.
abbrev pub ends : Form → Place → Bool
ends f p =
    nat_eq p.depth 0
    && (is_mark mark.Semicolon f || (is_include f || (is_mark mark.RightBrace f && not p.has_value)))

-- before the first token of a unit
abbrev pub beginning : Cut
beginning = record { items = []; item = []; place = start }

-- with a token of the item that is read
abbrev pub with_token : Lexeme → Cut → Cut
with_token t c = record { items = c.items; item = c.item ++ t ∷ []; place = past t.form c.place }

-- behind its last token
abbrev pub ended : Cut → Cut
ended c = record { items = c.items ++ c.item ∷ []; item = []; place = start }

abbrev pub ended_if : Form → Cut → Cut
ended_if f c = if ends f c.place then ended c else c

-- behind a token
abbrev pub step : Lexeme → Cut → Cut
step t c = ended_if t.form (with_token t c)

-- all items, from here on: the last one is what stands behind the others, which may be nothing
abbrev pub cut : Cut → Tokens → List Tokens
cut c [] = c.items ++ c.item ∷ []
cut c (t ∷ ts) = cut (step t c) ts

-- the items of a unit
abbrev pub items : Tokens → List Tokens
items ts = cut beginning ts
