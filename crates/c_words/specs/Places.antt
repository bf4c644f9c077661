-- Where a run of keywords stands: in which brackets.
use Rattle.std.specs.Prelude.{List, [], ◌∷◌}
use Rattle.c_tree.specs.declared.Form.{Form}
use Rattle.c_tree.specs.declared.Form.TheVariants as form
use Rattle.c_tree.specs.declared.Mark.{Mark}
use Rattle.c_tree.specs.declared.Mark.TheVariants as mark
use Rattle.c_words.specs.declared.place.Place.{Place}
use Rattle.c_words.specs.declared.place.Place.TheVariants as place

-- the places that brackets have made which are open, the innermost first
abbrev pub Places : Type 0
Places = List Place

-- the innermost one: outside of all brackets the unit
abbrev pub here : Places → Place
here [] = place.Unit
here (p ∷ ps) = p

-- those around it
abbrev pub around : Places → Places
around [] = []
around (p ∷ ps) = ps

-- what a `(` opens in a place: parameters outside of all brackets, a header of a statement in a block, as that of
-- `for`, or a group
abbrev pub group_in : Place → Place
group_in place.Unit = place.Parameters
group_in place.Block = place.Header
group_in _ = place.Other

-- the places behind a punctuator
abbrev pub marked : Mark → Places → Places
marked mark.LeftBrace ps = place.Block ∷ ps
marked mark.LeftParen ps = group_in (here ps) ∷ ps
marked mark.LeftBracket ps = place.Other ∷ ps
marked mark.RightBrace ps = around ps
marked mark.RightParen ps = around ps
marked mark.RightBracket ps = around ps
marked _ ps = ps

-- the places behind a token
abbrev pub past : Form → Places → Places
past (form.Mark m) ps = marked m ps
past _ ps = ps
