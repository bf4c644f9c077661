-- Declarations of one object, as one (C17 6.9.2, 6.2.2).
use Rattle.std.specs.Prelude.{ℕ, ◌+◌, Bool, true, false, not, ◌&&◌, ◌||◌, nat_eq, if◌then◌else◌, List, [], ◌∷◌, ◌++◌}
use Rattle.std.specs.Prelude.{Option, Some, None, is_none}
use Rattle.c_tree.specs.declared.Form.TheVariants as form
use Rattle.c_tree.specs.declared.Key.TheVariants as key
use Rattle.c_tree.specs.declared.Mark.TheVariants as mark
use Rattle.c_lex.specs.Lexes.{Tokens}
use Rattle.c_library.specs.Places.{tokens}
use Rattle.c_locals.specs.Elements.{marked}
use Rattle.c_units.specs.declared.joined.Told.{Told}
use Rattle.c_units.specs.declared.objects.Declaration.{Declaration}
use Rattle.c_units.specs.Completed.{completed_from}
use Rattle.c_units.specs.Cuts.{items}
use Rattle.c_units.specs.Objects.{has_value, is_any, read}
use Rattle.c_units.specs.Same.{same_tokens}

-- LOOKING UP, by the type, the name and the sizes of an object

-- how many of these declare it, behind so many
abbrev pub count_from : ℕ → List Declaration → Tokens → ℕ
count_from n [] h = n
count_from n (d ∷ ds) h = count_from (if same_tokens d.head h then n + 1 else n) ds h

-- how many declare it
abbrev pub count : List Declaration → Tokens → ℕ
count ds h = count_from 0 ds h

-- the first value that one of these gives it; nothing where none does
abbrev pub value_of : List Declaration → Tokens → Tokens
value_of [] h = []
value_of (d ∷ ds) h = if same_tokens d.head h && has_value d then d.value else value_of ds h

-- does the declaration make an object: it has no `extern`, or a value?
abbrev pub makes : Declaration → Bool
makes d = is_none d.external || has_value d

-- does one of these make it?
abbrev pub is_made : List Declaration → Tokens → Bool
is_made [] h = false
is_made (d ∷ ds) h = (same_tokens d.head h && makes d) || is_made ds h

-- ONE DECLARATION

-- `extern` at its place, if it has one
abbrev pub extern_at : Option ℕ → Tokens
extern_at None = []
extern_at (Some at) = tokens at (form.Key key.Extern ∷ [])

-- and where none of all makes the object, since the grammar refuses it
abbrev pub extern_of : List Declaration → Declaration → Tokens
extern_of all d = if is_made all d.head then [] else extern_at d.external

-- a declaration of its own, with this value
abbrev pub whole : List Declaration → Declaration → Tokens → Tokens
whole all d value = extern_of all d ++ (d.head ++ (value ++ marked d.at mark.Semicolon))

-- Is a declaration behind these one that counts, where one of these has a value: it has one too?
abbrev pub counts : List Declaration → Declaration → Bool
counts before d = has_value d && is_any (value_of before d.head)

-- What stands for a declaration behind these, of all: the first one of its object has the value that the object has,
-- and the others go; so does not a second value, which is refused.
abbrev pub single : List Declaration → List Declaration → Declaration → Tokens
single before all d =
    if nat_eq (count before d.head) 0 then whole all d (value_of all d.head)
    else if counts before d then whole all d d.value else []

-- THE UNIT

-- behind a declaration
abbrev pub one_told : List Declaration → Declaration → Told → Told
one_told all d s = record { before = s.before ++ d ∷ []; out = s.out ++ single s.before all d }

-- and behind these
abbrev pub each_told : List Declaration → List Declaration → Told → Told
each_told all [] s = s
each_told all (d ∷ ds) s = each_told all ds (one_told all d s)

-- is a declaration the only one of its object, and neither `extern` nor with a value whose braces went?
abbrev pub is_alone : List Declaration → Declaration → Bool
is_alone all d = is_none d.external && (not d.is_bared && nat_eq (count all d.head) 1)

-- is each of these?
abbrev pub are_alone : List Declaration → List Declaration → Bool
are_alone all [] = true
are_alone all (d ∷ ds) = is_alone all d && are_alone all ds

-- behind an item that stays as it is
abbrev pub kept : Tokens → List Declaration → Told → Told
kept item ds s = record { before = s.before ++ ds; out = s.out ++ item }

-- behind an item with these declarations
abbrev pub item_told : List Declaration → Tokens → List Declaration → Told → Told
item_told all item ds s = if are_alone all ds then kept item ds s else each_told all ds s

-- behind these items
abbrev pub items_told : List Declaration → List Tokens → Told → Told
items_told all [] s = s
items_told all (i ∷ is) s = items_told all is (item_told all i (completed_from all [] (read i)) s)

-- the declarations of these items, behind others
abbrev pub all_from : List Declaration → List Tokens → List Declaration
all_from got [] = got
all_from got (i ∷ is) = all_from (got ++ read i) is

-- before the first item
abbrev pub beginning : Told
beginning = record { before = []; out = [] }

-- the declarations of these items, with the sizes that they leave out
abbrev pub all_completed : List Tokens → List Declaration
all_completed is = completed_from (all_from [] is) [] (all_from [] is)

-- the items, each object of which is declared once
abbrev pub joined_items : List Tokens → Tokens
joined_items is = (items_told (all_completed is) is beginning).out

-- A unit that declares each object once: the first declaration outside of functions with a type, a name and sizes has
-- the value of the one with a value, and the others with these go.
abbrev pub joined : Tokens → Tokens
joined ts = joined_items (items ts)
