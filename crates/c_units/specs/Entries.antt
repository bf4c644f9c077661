-- The values of a list with designators, each at its index (C17 6.7.9, paragraphs 6, 17 and 19).
use Rattle.std.specs.Prelude.{ℕ, zero, suc, ◌+◌, Bool, true, false, not, ◌&&◌, ◌||◌, nat_eq, nat_lt, nat_le}
use Rattle.std.specs.Prelude.{if◌then◌else◌, List, [], ◌∷◌, ◌++◌}
use Rattle.c_tree.specs.declared.Form.{Form}
use Rattle.c_tree.specs.declared.Form.TheVariants as form
use Rattle.c_tree.specs.declared.Kind.TheVariants as kind
use Rattle.c_tree.specs.declared.Mark.TheVariants as mark
use Rattle.c_lex.specs.Lexes.{Tokens}
use Rattle.c_library.specs.Calls.{is_mark}
use Rattle.c_library.specs.Places.{tokens}
use Rattle.c_locals.specs.Brackets.{pieces}
use Rattle.c_locals.specs.Declarators.{ends}
use Rattle.c_locals.specs.Elements.{marked}
use Rattle.c_units.specs.declared.entries.Entry.{Entry}

-- READING

-- Is it an index? A list of as many values, each behind a comma, has as many tokens as a text may have.
abbrev pub is_index : ℕ → Bool
is_index i = nat_lt i 4096

-- the next index
abbrev pub next : ℕ → ℕ
next i = if is_index i then i + 1 else i

-- what is not understood: it has no value, and so is no good
abbrev pub unknown : Entry
unknown = record { at = 0; value = [] }

-- the value, at an index that is a constant
abbrev pub numbered : Form → Tokens → Entry
numbered (form.Number i k) ts = if is_index i then record { at = i; value = ts } else unknown
numbered _ ts = unknown

-- what stands behind the bracket of a designator: `k ] = VALUE`
abbrev pub designated : Tokens → Entry
designated (k ∷ c ∷ e ∷ ts) =
    if is_mark mark.RightBracket c.form && is_mark mark.Assign e.form then numbered k.form ts else unknown
designated _ = unknown

-- a piece of a list, which sets the element of this index where it has no designator
abbrev pub piece : ℕ → Tokens → Entry
piece i [] = unknown
piece i (t ∷ ts) = if is_mark mark.LeftBracket t.form then designated ts else record { at = i; value = t ∷ ts }

-- the values of pieces from this index on, behind others
abbrev pub entries_from : ℕ → List Entry → List Tokens → List Entry
entries_from i got [] = got
entries_from i got (p ∷ ps) =
    if ends p ps then got else entries_from (next (piece i p).at) (got ++ piece i p ∷ []) ps

-- the values of a list
abbrev pub entries : Tokens → List Entry
entries ts = entries_from 0 [] (pieces ts)

-- GOOD LISTS

-- are they the value of one element, and no list?
abbrev pub is_value : Tokens → Bool
is_value [] = false
is_value (t ∷ ts) = not (is_mark mark.LeftBrace t.form)

-- is it a constant?
abbrev pub is_number : Form → Bool
is_number (form.Number v k) = true
is_number _ = false

-- is it one and nothing else, which may go since it has no effect?
abbrev pub may_go : Tokens → Bool
may_go (t ∷ []) = is_number t.form
may_go _ = false

-- does one of these set the element?
abbrev pub is_set : ℕ → List Entry → Bool
is_set i [] = false
is_set i (e ∷ es) = nat_eq e.at i || is_set i es

-- is a value good before these: understood, and not lost where a later one sets its element too?
abbrev pub is_good : Entry → List Entry → Bool
is_good e es = is_index e.at && (is_value e.value && (may_go e.value || not (is_set e.at es)))

-- is each of these?
abbrev pub are_good : List Entry → Bool
are_good [] = true
are_good (e ∷ es) = is_good e es && are_good es

-- ALL ELEMENTS

-- the larger of two numbers
abbrev pub larger : ℕ → ℕ → ℕ
larger m n = if nat_le m n then n else m

-- how many elements these set, or so many: up to the largest index
abbrev pub count_from : ℕ → List Entry → ℕ
count_from n [] = n
count_from n (e ∷ es) = count_from (larger n (next e.at)) es

-- the last value of the element, or this one
abbrev pub last_of : Tokens → ℕ → List Entry → Tokens
last_of v i [] = v
last_of v i (e ∷ es) = last_of (if nat_eq e.at i then e.value else v) i es

-- a zero at this place, for an element that none sets
abbrev pub zero_at : ℕ → Tokens
zero_at at = tokens at (form.Number 0 kind.Int ∷ [])

-- what stands before a value
abbrev pub comma_at : ℕ → ℕ → Tokens
comma_at at i = if nat_eq i 0 then [] else marked at mark.Comma

-- an element, with the comma
abbrev pub element : ℕ → List Entry → ℕ → Tokens
element at es i = comma_at at i ++ last_of (zero_at at) i es

-- so many elements
abbrev pub elements : ℕ → List Entry → ℕ → Tokens
elements at es zero = []
elements at es (suc n) = elements at es n ++ element at es n
