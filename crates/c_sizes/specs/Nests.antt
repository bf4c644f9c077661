-- The brackets that a token stands in, and the declaration that goes on in each.
use Rattle.std.specs.Prelude.{ℕ, Bool, true, false, not, ◌&&◌, if◌then◌else◌, List, [], ◌∷◌, Option, None}
use Rattle.c_tree.specs.declared.Form.TheVariants as form
use Rattle.c_tree.specs.declared.Mark.{Mark}
use Rattle.c_tree.specs.declared.Mark.TheVariants as mark
use Rattle.c_library.specs.Calls.{is_mark}
use Rattle.c_sizes.specs.declared.nest.Level.{Level}
use Rattle.c_sizes.specs.declared.nest.Nest.{Nest}
use Rattle.c_sizes.specs.declared.nest.Opened.{Opened}
use Rattle.c_sizes.specs.declared.nest.Opened.TheVariants as opened
use Rattle.c_sizes.specs.Counts.{is_opening, is_closing}

-- a level in which no declaration goes on
abbrev pub fresh : Opened → Level
fresh o = record { opened = o; declares = None }

-- the innermost of these levels, or that outside of all brackets
abbrev pub first_of : List Level → Level
first_of [] = fresh opened.File
first_of (l ∷ ls) = l

-- those around it
abbrev pub behind_first : List Level → List Level
behind_first [] = []
behind_first (l ∷ ls) = ls

-- outside of all brackets
abbrev pub beginning : Nest
beginning = record { inner = fresh opened.File; around = [] }

-- in one more bracket
abbrev pub entered : Opened → Nest → Nest
entered o n = record { inner = fresh o; around = n.inner ∷ n.around }

-- behind the innermost bracket
abbrev pub close : Nest → Nest
close n = record { inner = first_of n.around; around = behind_first n.around }

-- with a declaration that goes on, of a type of so many bytes, or with none
abbrev pub declare : Option ℕ → Nest → Nest
declare b n = record n { inner = record { opened = n.inner.opened; declares = b } }

-- what a punctuator opens, which stands behind `for` or not
abbrev pub opened_by : Bool → Mark → Opened
opened_by b mark.LeftParen = if b then opened.For else opened.Paren
opened_by b mark.Question = opened.Choice
opened_by b _ = opened.Other

-- is this the middle of `? :`?
abbrev pub is_choice : Opened → Bool
is_choice opened.Choice = true
is_choice _ = false

-- is it a `:` that ends no `? :`, as behind a label?
abbrev pub is_label : Mark → Opened → Bool
is_label mark.Colon o = not (is_choice o)
is_label _ o = false

-- Behind a punctuator: `;` ends the declaration that goes on.
abbrev pub past : Bool → Mark → Nest → Nest
past b m n =
    if is_opening m then entered (opened_by b m) n
    else if is_closing m && not (is_label m n.inner.opened) then close n
    else if is_mark mark.Semicolon (form.Mark m) then declare None n else n

-- outside of all brackets?
abbrev pub is_file : Opened → Bool
is_file opened.File = true
is_file _ = false

abbrev pub is_outside : Nest → Bool
is_outside n = is_file n.inner.opened
