-- Units in which no name of the library stands in front of a `(`.
use Rattle.std.specs.Prelude.{ℕ, Bool, true, false, not, ◌&&◌, ◌||◌, nat_eq, List, [], ◌∷◌, is_none}
use Rattle.std.specs.Str.{bytes_eq}
use Rattle.c_tree.specs.declared.Form.{Form}
use Rattle.c_tree.specs.declared.Form.TheVariants as form
use Rattle.c_lex.specs.Bytes.{Bytes}
use Rattle.c_lex.specs.Lexes.{Tokens}
use Rattle.c_lex.specs.Tables.{lookup}
use Rattle.c_library.specs.Calls.{printf, opens}
use Rattle.c_library.specs.Definitions.{Row}
use Rattle.c_library.specs.Headers.{bracketed}
use Rattle.c_library.specs.Table.{table}

-- does a name of the library begin with these two bytes? `is`, `to`, `pr`, `pu`, `st`, `sr`, `ra`, `la`, `me`, `ab`,
-- `ex`
abbrev pub may_be : ℕ → ℕ → Bool
may_be a b =
    (nat_eq a 105 && nat_eq b 115)
    || (nat_eq a 116 && nat_eq b 111)
    || (nat_eq a 112 && (nat_eq b 114 || nat_eq b 117))
    || (nat_eq a 115 && (nat_eq b 116 || nat_eq b 114))
    || ((nat_eq a 114 || nat_eq a 108) && nat_eq b 97)
    || (nat_eq a 109 && nat_eq b 101)
    || (nat_eq a 97 && nat_eq b 98)
    || (nat_eq a 101 && nat_eq b 120)

-- does the name?
abbrev pub may_name : Bytes → Bool
may_name (a ∷ b ∷ w) = may_be a b
may_name _ = false

-- is it the name of a row?
abbrev pub is_row : Bytes → List Row → Bool
is_row w [] = false
is_row w (r ∷ rs) = bytes_eq w r.0 || is_row w rs

-- is it a name of the library?
abbrev pub is_library : Bytes → Bool
is_library w = bytes_eq w printf || is_row w table

-- is the token, before these, nothing of the library, where a header stands before it or none?
abbrev pub is_other : Bool → Form → Tokens → Bool
is_other seen (form.Name w) ts = is_none (lookup w bracketed) && not (seen && (opens ts && is_library w))
is_other seen _ ts = true

-- does a header stand behind it?
abbrev pub seen_behind : Bool → Form → Bool
seen_behind seen form.Include = true
seen_behind seen _ = seen

-- is each of these tokens nothing of the library?
abbrev pub all_other : Bool → Tokens → Bool
all_other seen [] = true
all_other seen (t ∷ ts) = is_other seen t.form ts && all_other (seen_behind seen t.form) ts
