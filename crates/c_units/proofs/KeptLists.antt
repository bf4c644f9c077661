-- What holds of all tokens and of all that may be added holds of a unit whose lists have no designators.
use Rattle.std.proofs.Common.{ℕ, zero, suc, Bool, true, false, cond, List, [], ◌∷◌, ◌++◌, Option, Some, None}
use Rattle.std.specs.Prelude.{◌-◌, ◌&&◌, nat_eq, length}
use Rattle.c_tree.specs.declared.Form.{Form}
use Rattle.c_tree.specs.declared.Form.TheVariants as form
use Rattle.c_tree.specs.declared.Mark.TheVariants as mark
use Rattle.c_tree.specs.declared.Lexeme.{Lexeme}
use Rattle.c_lex.specs.Lexes.{Tokens}
use Rattle.c_library.specs.Calls.{is_mark}
use Rattle.c_library.proofs.Holds.{Fact, EachToken, Allows, each_append}
use Rattle.c_locals.specs.Brackets.{Parts, split, pieces}
use Rattle.c_locals.specs.Declarators.{ends, sized}
use Rattle.c_locals.specs.Elements.{marked, bracketed}
use Rattle.c_locals.specs.Values.{is_name}
use Rattle.c_locals.proofs.KeptElements.{EachPart, EachPiece, parts_keep, pieces_keep, marked_keeps, bracketed_keeps}
use Rattle.c_locals.proofs.KeptElements.{number_keeps}
use Rattle.c_units.specs.declared.designators.Reading.{Reading}
use Rattle.c_units.specs.declared.entries.Entry.{Entry}
use Rattle.c_units.specs.Designators.{may_stand, list, list_at, beginning, to_out, with_list, list_if, list_by, size_by}
use Rattle.c_units.specs.Designators.{taken, run, plain}
use Rattle.c_units.specs.Entries.{is_index, next, unknown, numbered, designated, piece, entries_from, entries}
use Rattle.c_units.specs.Entries.{count_from, last_of, zero_at, comma_at, element, elements}
use Rattle.c_units.proofs.KeptObjects.{either}

-- VALUES

-- it holds of each value of a list
abbrev EachEntry : Fact → List Entry → Type 0
EachEntry P [] = Unit {0}
EachEntry P (e ∷ es) = EachToken P e.value × EachEntry P es

entry_behind : (P : Fact) (es : List Entry) (e : Entry) → EachEntry P es → EachToken P e.value
    → EachEntry P (es ++ e ∷ [])
entry_behind P [] e h k = (k, tt)
entry_behind P (x ∷ es) e h k = (h.0, entry_behind P es e h.1 k)

-- of one of two
either_entry : (P : Fact) (b : Bool) (x y : Entry) → EachToken P x.value → EachToken P y.value
    → EachToken P (cond b x y).value
either_entry P true x y h k = h
either_entry P false x y h k = k

either_entries : (P : Fact) (b : Bool) (xs ys : List Entry) → EachEntry P xs → EachEntry P ys
    → EachEntry P (cond b xs ys)
either_entries P true xs ys h k = h
either_entries P false xs ys h k = k

numbered_keeps : (P : Fact) (f : Form) (ts : Tokens) → EachToken P ts → EachToken P (numbered f ts).value
numbered_keeps P (form.Number i k) ts h =
    either_entry P (is_index i) (record { at = i; value = ts }) unknown h tt
numbered_keeps P (form.Key k) ts h = tt
numbered_keeps P (form.Name w) ts h = tt
numbered_keeps P (form.Mark m) ts h = tt
numbered_keeps P form.Include ts h = tt

designated_keeps : (P : Fact) (ts : Tokens) → EachToken P ts → EachToken P (designated ts).value
designated_keeps P [] h = tt
designated_keeps P (k ∷ []) h = tt
designated_keeps P (k ∷ c ∷ []) h = tt
designated_keeps P (k ∷ c ∷ e ∷ ts) h =
    either_entry P (is_mark mark.RightBracket c.form && is_mark mark.Assign e.form) (numbered k.form ts) unknown
    (numbered_keeps P k.form ts h.1.1.1) tt

piece_keeps : (P : Fact) (i : ℕ) (ts : Tokens) → EachToken P ts → EachToken P (piece i ts).value
piece_keeps P i [] h = tt
piece_keeps P i (t ∷ ts) h =
    either_entry P (is_mark mark.LeftBracket t.form) (designated ts) (record { at = i; value = t ∷ ts })
    (designated_keeps P ts h.1) h

from_keeps : (P : Fact) (i : ℕ) (got : List Entry) (ps : List Tokens) → EachEntry P got → EachPiece P ps
    → EachEntry P (entries_from i got ps)
from_keeps P i got [] h k = h
from_keeps P i got (p ∷ ps) h k =
    either_entries P (ends p ps) got (entries_from (next (piece i p).at) (got ++ piece i p ∷ []) ps) h
    (from_keeps P (next (piece i p).at) (got ++ piece i p ∷ []) ps
    (entry_behind P got (piece i p) h (piece_keeps P i p k.0)) k.1)

-- the values of a list
entries_keep : (P : Fact) (ts : Tokens) → EachToken P ts → EachEntry P (entries ts)
entries_keep P ts h = from_keeps P 0 [] (pieces ts) tt (pieces_keep P ts h)

last_keeps : (P : Fact) (v : Tokens) (i : ℕ) (es : List Entry) → EachToken P v → EachEntry P es
    → EachToken P (last_of v i es)
last_keeps P v i [] h k = h
last_keeps P v i (e ∷ es) h k =
    last_keeps P (cond (nat_eq e.at i) e.value v) i es (either P (nat_eq e.at i) e.value v k.0 h) k.1

element_keeps : (P : Fact) (at : ℕ) (es : List Entry) (i : ℕ) → Allows P → EachEntry P es
    → EachToken P (element at es i)
element_keeps P at es i a h =
    each_append P (comma_at at i) (last_of (zero_at at) i es)
    (either P (nat_eq i 0) [] (marked at mark.Comma) tt (marked_keeps P at mark.Comma a))
    (last_keeps P (zero_at at) i es (number_keeps P 0 a, tt) h)

elements_keep : (P : Fact) (at : ℕ) (es : List Entry) (n : ℕ) → Allows P → EachEntry P es
    → EachToken P (elements at es n)
elements_keep P at es zero a h = tt
elements_keep P at es (suc n) a h =
    each_append P (elements at es n) (element at es n) (elements_keep P at es n a h) (element_keeps P at es n a h)

-- LISTS

list_keeps : (P : Fact) (at : ℕ) (size values : Tokens) → Allows P → EachToken P size → EachToken P values
    → EachToken P (list at size values)
list_keeps P at size values a h k =
    let end : Tokens = marked at mark.RightBrace in
    each_append P (bracketed at size) (marked at mark.Assign ++ (marked at mark.LeftBrace ++ (values ++ end)))
    (bracketed_keeps P at size a h)
    (each_append P (marked at mark.Assign) (marked at mark.LeftBrace ++ (values ++ end))
    (marked_keeps P at mark.Assign a)
    (each_append P (marked at mark.LeftBrace) (values ++ end) (marked_keeps P at mark.LeftBrace a)
    (each_append P values end k (marked_keeps P at mark.RightBrace a))))

parts_if : (P : Fact) (b : Bool) (o : Option Parts) → EachPart P o → EachPart P (cond b o None)
parts_if P true o h = h
parts_if P false o h = tt

list_at_keeps : (P : Fact) (ts : Tokens) → EachToken P ts → EachPart P (list_at ts)
list_at_keeps P [] h = tt
list_at_keeps P (e ∷ []) h = tt
list_at_keeps P (e ∷ b ∷ ts) h =
    parts_if P (is_mark mark.Assign e.form && is_mark mark.LeftBrace b.form) (split mark.RightBrace ts)
    (parts_keep P mark.RightBrace ts h.1.1)

sized_keeps : (P : Fact) (ts : Tokens) → EachToken P ts → EachPart P (sized ts)
sized_keeps P [] h = tt
sized_keeps P (t ∷ ts) h =
    parts_if P (is_mark mark.LeftBracket t.form) (split mark.RightBracket ts) (parts_keep P mark.RightBracket ts h.1)

-- THE UNIT

either_out : (P : Fact) (b : Bool) (x y : Reading) → EachToken P x.out → EachToken P y.out
    → EachToken P (cond b x y).out
either_out P true x y h k = h
either_out P false x y h k = k

out_keeps : (P : Fact) (t : Lexeme) (s : Reading) → EachToken P s.out → P t.form → EachToken P (to_out t s).out
out_keeps P t s h k = each_append P s.out (t ∷ []) h (k, tt)

with_list_keeps : (P : Fact) (n : Lexeme) (size : Tokens) (es : List Entry) (k : ℕ) (s : Reading) → Allows P
    → EachToken P s.out → P n.form → EachToken P size → EachEntry P es → EachToken P (with_list n size es k s).out
with_list_keeps P n size es k s a h m z e =
    let values : Tokens = elements n.offset es (count_from 0 es) in
    each_append P s.out (n ∷ list n.offset size values) h
    (m, list_keeps P n.offset size values a z (elements_keep P n.offset es (count_from 0 es) a e))

list_if_keeps : (P : Fact) (n : Lexeme) (size values : Tokens) (es : List Entry) (k : ℕ) (s : Reading) → Allows P
    → EachToken P s.out → P n.form → EachToken P size → EachEntry P es
    → EachToken P (list_if n size values es k s).out
list_if_keeps P n size values es k s a h m z e =
    either_out P (may_stand size values es) (with_list n size es k s) (to_out n s)
    (with_list_keeps P n size es k s a h m z e) (out_keeps P n s h m)

list_by_keeps : (P : Fact) (n : Lexeme) (ts size : Tokens) (o : Option Parts) (s : Reading) → Allows P
    → EachToken P s.out → P n.form → EachToken P size → EachPart P o → EachToken P (list_by n ts size o s).out
list_by_keeps P n ts size None s a h m z k = out_keeps P n s h m
list_by_keeps P n ts size (Some (values, rest)) s a h m z k =
    list_if_keeps P n size values (entries values) (length ts - length rest) s a h m z (entries_keep P values k.0)

size_by_keeps : (P : Fact) (n : Lexeme) (ts : Tokens) (o : Option Parts) (s : Reading) → Allows P
    → EachToken P s.out → P n.form → EachPart P o → EachToken P (size_by n ts o s).out
size_by_keeps P n ts None s a h m k = out_keeps P n s h m
size_by_keeps P n ts (Some (size, behind)) s a h m k =
    list_by_keeps P n ts size (list_at behind) s a h m k.0 (list_at_keeps P behind k.1)

taken_keeps : (P : Fact) (k : ℕ) (t : Lexeme) (ts : Tokens) (s : Reading) → Allows P → EachToken P s.out
    → EachToken P (t ∷ ts) → EachToken P (taken k t ts s).out
taken_keeps P (suc k) t ts s a h m = h
taken_keeps P zero t ts s a h m =
    either_out P (is_name t.form) (size_by t ts (sized ts) s) (to_out t s)
    (size_by_keeps P t ts (sized ts) s a h m.0 (sized_keeps P ts m.1)) (out_keeps P t s h m.0)

run_keeps : (P : Fact) (s : Reading) (ts : Tokens) → Allows P → EachToken P s.out → EachToken P ts
    → EachToken P (run s ts)
run_keeps P s [] a h k = h
run_keeps P s (t ∷ ts) a h k = run_keeps P (taken s.skip t ts s) ts a (taken_keeps P s.skip t ts s a h k) k.1

-- the unit whose lists have no designators
pub plain_keeps : (P : Fact) (ts : Tokens) → Allows P → EachToken P ts → EachToken P (plain ts)
plain_keeps P ts a h = run_keeps P beginning ts a tt h
