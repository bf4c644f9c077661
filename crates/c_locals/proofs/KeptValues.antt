-- What holds of all tokens and of all that may be added holds of a unit without local arrays that have values.
use Rattle.std.proofs.Common.{◌≡◌, ℕ, ◌+◌, Bool, true, false, cond, List, [], ◌∷◌, ◌++◌, Option, Some, None}
use Rattle.std.specs.Prelude.{◌&&◌}
use Rattle.c_tree.specs.declared.Form.{Form}
use Rattle.c_tree.specs.declared.Mark.TheVariants as mark
use Rattle.c_tree.specs.declared.Lexeme.{Lexeme}
use Rattle.c_lex.specs.Lexes.{Tokens}
use Rattle.c_library.specs.Calls.{is_mark}
use Rattle.c_library.specs.Places.{tokens}
use Rattle.c_library.proofs.Holds.{Fact, EachToken, Allows, each_append}
use Rattle.c_locals.specs.declared.walk.Part.{Part}
use Rattle.c_locals.specs.declared.walk.Part.TheVariants as part
use Rattle.c_locals.specs.declared.walk.Walk.{Walk}
use Rattle.c_locals.specs.Brackets.{Parts, split, pieces}
use Rattle.c_locals.specs.Elements.{number, marked, bracketed, element, count, named, row_counter, is_just, loop_head}
use Rattle.c_locals.specs.Elements.{zero_from, filled}
use Rattle.c_locals.specs.Declarators.{whole, braced, list_of, sized, plain, scalar, scalar_if, size_of, array}
use Rattle.c_locals.specs.Declarators.{rows_from}
use Rattle.c_locals.specs.Declarators.{set_row, set_rows, zero_rows, grid, grid_if, grid_by, second_by, array_by}
use Rattle.c_locals.specs.Declarators.{first_by, value_by, declared}
use Rattle.c_locals.specs.Values.{begins, adds_word, past, words_added, body_added, words_past, body_past, puts, local}
use Rattle.c_locals.specs.Values.{one_declared, each_declared, are_named, beginning, walked, with_values}
use Rattle.c_locals.proofs.KeptElements.{EachPart, EachPiece, parts_keep, pieces_keep, number_keeps, marked_keeps}
use Rattle.c_locals.proofs.KeptElements.{bracketed_keeps, element_keeps, loop_keeps, unless, zero_from_keeps}
use Rattle.c_locals.proofs.KeptElements.{filled_keeps}

-- PARTS OF A DECLARATOR

-- it holds of what is there
abbrev EachOf : Fact → Option Tokens → Type 0
EachOf P None = Unit {0}
EachOf P (Some ts) = EachToken P ts

whole_keeps : (P : Fact) (o : Option Parts) → EachPart P o → EachOf P (whole o)
whole_keeps P None h = tt
whole_keeps P (Some ([], b)) h = tt
whole_keeps P (Some (v ∷ vs, [])) h = h.0
whole_keeps P (Some (v ∷ vs, t ∷ ts)) h = tt

if_list : (P : Fact) (x : Bool) (o : Option Tokens) → EachOf P o → EachOf P (cond x o None)
if_list P true o h = h
if_list P false o h = tt

if_parts : (P : Fact) (x : Bool) (o : Option Parts) → EachPart P o → EachPart P (cond x o None)
if_parts P true o h = h
if_parts P false o h = tt

braced_keeps : (P : Fact) (ts : Tokens) → EachToken P ts → EachOf P (braced ts)
braced_keeps P [] h = tt
braced_keeps P (t ∷ ts) h =
    if_list P (is_mark mark.LeftBrace t.form) (whole (split mark.RightBrace ts))
    (whole_keeps P (split mark.RightBrace ts) (parts_keep P mark.RightBrace ts h.1))

list_keeps : (P : Fact) (ts : Tokens) → EachToken P ts → EachOf P (list_of ts)
list_keeps P [] h = tt
list_keeps P (t ∷ ts) h = if_list P (is_mark mark.Assign t.form) (braced ts) (braced_keeps P ts h.1)

sized_keeps : (P : Fact) (ts : Tokens) → EachToken P ts → EachPart P (sized ts)
sized_keeps P [] h = tt
sized_keeps P (t ∷ ts) h =
    if_parts P (is_mark mark.LeftBracket t.form) (split mark.RightBracket ts) (parts_keep P mark.RightBracket ts h.1)

-- ONE DECLARATOR

plain_keeps : (P : Fact) (type : Tokens) (n : Lexeme) (ts : Tokens) → Allows P → EachToken P type → P n.form
    → EachToken P ts → EachToken P (plain type n ts)
plain_keeps P type n ts a h k m =
    each_append P type (n ∷ (ts ++ marked n.offset mark.Semicolon)) h
    (k, each_append P ts (marked n.offset mark.Semicolon) m (marked_keeps P n.offset mark.Semicolon a))

scalar_keeps : (P : Fact) (type : Tokens) (n : Lexeme) (value : Tokens) → Allows P → EachToken P type → P n.form
    → EachToken P value → EachToken P (scalar type n value)
scalar_keeps P type n value a h k m =
    plain_keeps P type n (marked n.offset mark.Assign ++ value) a h k
    (each_append P (marked n.offset mark.Assign) value (marked_keeps P n.offset mark.Assign a) m)

scalar_if_keeps : (P : Fact) (type : Tokens) (n : Lexeme) (ts value : Tokens) (o : Option Parts) → Allows P
    → EachToken P type → P n.form → EachToken P ts → EachToken P value → EachPart P o
    → EachToken P (scalar_if type n ts value o)
scalar_if_keeps P type n ts value None a h k m v o = scalar_keeps P type n value a h k v
scalar_if_keeps P type n ts value (Some (before, [])) a h k m v o = scalar_keeps P type n before a h k o.0
scalar_if_keeps P type n ts value (Some (before, t ∷ behind)) a h k m v o = plain_keeps P type n ts a h k m

size_keeps : (P : Fact) (at : ℕ) (size : Tokens) (n : ℕ) → Allows P → EachToken P size
    → EachToken P (size_of at size n)
size_keeps P at [] n a h = (number_keeps P n a, tt)
size_keeps P at (t ∷ ts) n a h = h

array_keeps : (P : Fact) (type : Tokens) (n : Lexeme) (size values : Tokens) → Allows P → EachToken P type
    → P n.form → EachToken P size → EachToken P values → EachToken P (array type n size values)
array_keeps P type n size values a h k s v =
    each_append P (plain type n (bracketed n.offset (size_of n.offset size (count values))))
    (filled n.offset (n ∷ []) size values)
    (plain_keeps P type n (bracketed n.offset (size_of n.offset size (count values))) a h k
    (bracketed_keeps P n.offset (size_of n.offset size (count values)) a
    (size_keeps P n.offset size (count values) a s))) (filled_keeps P n.offset (n ∷ []) size values a (k, tt) s v)

row_keeps : (P : Fact) (n : Lexeme) (width : Tokens) (i : ℕ) (o : Option Tokens) → Allows P → P n.form
    → EachToken P width → EachOf P o → EachToken P (set_row n width i o)
row_keeps P n width i None a k w o = tt
row_keeps P n width i (Some values) a k w o =
    filled_keeps P n.offset (element n.offset (n ∷ []) (number i)) width values a
    (element_keeps P n.offset (n ∷ []) (number i) a (k, tt) (number_keeps P i a)) w o

rows_keep : (P : Fact) (n : Lexeme) (width : Tokens) (i : ℕ) (ps : List Tokens) → Allows P → P n.form
    → EachToken P width → EachPiece P ps → EachToken P (set_rows n width i ps)
rows_keep P n width i [] a k w o = tt
rows_keep P n width i (p ∷ ps) a k w o =
    each_append P (set_row n width i (braced p)) (set_rows n width (i + 1) ps)
    (row_keeps P n width i (braced p) a k w (braced_keeps P p o.0)) (rows_keep P n width (i + 1) ps a k w o.1)

zero_rows_keep : (P : Fact) (n : Lexeme) (height width : Tokens) (i : ℕ) → Allows P → P n.form → EachToken P height
    → EachToken P width → EachToken P (zero_rows n height width i)
zero_rows_keep P n [] width i a k h w = tt
zero_rows_keep P n (t ∷ ts) width i a k h w =
    unless P (is_just i (t ∷ ts))
    (loop_head n.offset row_counter i (t ∷ ts)
    ++ zero_from n.offset (element n.offset (n ∷ []) (named row_counter)) 0 width)
    (each_append P (loop_head n.offset row_counter i (t ∷ ts))
    (zero_from n.offset (element n.offset (n ∷ []) (named row_counter)) 0 width)
    (loop_keeps P n.offset row_counter i (t ∷ ts) a h)
    (zero_from_keeps P n.offset (element n.offset (n ∷ []) (named row_counter)) 0 width a
    (element_keeps P n.offset (n ∷ []) (named row_counter) a (k, tt) (a.name row_counter)) w))

grid_keeps : (P : Fact) (type : Tokens) (n : Lexeme) (height width : Tokens) (rows : List Tokens) (i : ℕ)
    → Allows P → EachToken P type → P n.form → EachToken P height → EachToken P width → EachPiece P rows
    → EachToken P (grid type n height width rows i)
grid_keeps P type n height width rows i a h k s w o =
    each_append P
    (plain type n (bracketed n.offset (size_of n.offset height i) ++ bracketed n.offset width))
    (set_rows n width 0 rows ++ zero_rows n height width i)
    (plain_keeps P type n (bracketed n.offset (size_of n.offset height i) ++ bracketed n.offset width) a h k
    (each_append P (bracketed n.offset (size_of n.offset height i)) (bracketed n.offset width)
    (bracketed_keeps P n.offset (size_of n.offset height i) a (size_keeps P n.offset height i a s))
    (bracketed_keeps P n.offset width a w)))
    (each_append P (set_rows n width 0 rows) (zero_rows n height width i) (rows_keep P n width 0 rows a k w o)
    (zero_rows_keep P n height width i a k s w))

-- WHICH OF THESE IT IS

grid_if_keeps : (P : Fact) (type : Tokens) (n : Lexeme) (ts height width : Tokens) (rows : List Tokens)
    (o : Option ℕ) → Allows P → EachToken P type → P n.form → EachToken P ts → EachToken P height
    → EachToken P width → EachPiece P rows → EachToken P (grid_if type n ts height width rows o)
grid_if_keeps P type n ts height width rows None a h k m s w o = plain_keeps P type n ts a h k m
grid_if_keeps P type n ts height width rows (Some i) a h k m s w o =
    grid_keeps P type n height width rows i a h k s w o

grid_by_keeps : (P : Fact) (type : Tokens) (n : Lexeme) (ts height width : Tokens) (o : Option Tokens) → Allows P
    → EachToken P type → P n.form → EachToken P ts → EachToken P height → EachToken P width → EachOf P o
    → EachToken P (grid_by type n ts height width o)
grid_by_keeps P type n ts height width None a h k m s w o = plain_keeps P type n ts a h k m
grid_by_keeps P type n ts height width (Some values) a h k m s w o =
    grid_if_keeps P type n ts height width (pieces values) (rows_from 0 (pieces values)) a h k m s w
    (pieces_keep P values o)

second_keeps : (P : Fact) (type : Tokens) (n : Lexeme) (ts height : Tokens) (o : Option Parts) → Allows P
    → EachToken P type → P n.form → EachToken P ts → EachToken P height → EachPart P o
    → EachToken P (second_by type n ts height o)
second_keeps P type n ts height None a h k m s o = plain_keeps P type n ts a h k m
second_keeps P type n ts height (Some (width, behind)) a h k m s o =
    grid_by_keeps P type n ts height width (list_of behind) a h k m s o.0 (list_keeps P behind o.1)

array_by_keeps : (P : Fact) (type : Tokens) (n : Lexeme) (ts size behind : Tokens) (o : Option Tokens) → Allows P
    → EachToken P type → P n.form → EachToken P ts → EachToken P size → EachToken P behind → EachOf P o
    → EachToken P (array_by type n ts size behind o)
array_by_keeps P type n ts size behind (Some values) a h k m s b o = array_keeps P type n size values a h k s o
array_by_keeps P type n ts size behind None a h k m s b o =
    second_keeps P type n ts size (sized behind) a h k m s (sized_keeps P behind b)

first_keeps : (P : Fact) (type : Tokens) (n : Lexeme) (ts : Tokens) (o : Option Parts) → Allows P
    → EachToken P type → P n.form → EachToken P ts → EachPart P o → EachToken P (first_by type n ts o)
first_keeps P type n ts None a h k m o = plain_keeps P type n ts a h k m
first_keeps P type n ts (Some (size, behind)) a h k m o =
    array_by_keeps P type n ts size behind (list_of behind) a h k m o.0 o.1 (list_keeps P behind o.1)

value_keeps : (P : Fact) (type : Tokens) (n : Lexeme) (ts : Tokens) (o : Option Tokens) → Allows P
    → EachToken P type → P n.form → EachToken P ts → EachOf P o → EachToken P (value_by type n ts o)
value_keeps P type n ts (Some value) a h k m o =
    scalar_if_keeps P type n ts value (split mark.Comma value) a h k m o (parts_keep P mark.Comma value o)
value_keeps P type n ts None a h k m o = first_keeps P type n ts (sized ts) a h k m (sized_keeps P ts m)

one_keeps : (P : Fact) (type p : Tokens) → Allows P → EachToken P type → EachToken P p
    → EachToken P (one_declared type p)
one_keeps P type [] a h k = tt
one_keeps P type (n ∷ ts) a h k = value_keeps P type n ts (list_of ts) a h k.0 k.1 (list_keeps P ts k.1)

each_keeps : (P : Fact) (type : Tokens) (ps : List Tokens) → Allows P → EachToken P type → EachPiece P ps
    → EachToken P (each_declared type ps)
each_keeps P type [] a h k = tt
each_keeps P type (p ∷ ps) a h k =
    each_append P (one_declared type p) (each_declared type ps) (one_keeps P type p a h k.0)
    (each_keeps P type ps a h k.1)

-- THE UNIT

-- either of two
either : (P : Fact) (x : Bool) (xs ys : Tokens) → EachToken P xs → EachToken P ys → EachToken P (cond x xs ys)
either P true xs ys h k = h
either P false xs ys h k = k

local_keeps : (P : Fact) (x : Bool) (type body : Tokens) (t : Lexeme) → Allows P → EachToken P type
    → EachToken P body → P t.form → EachToken P (local x type body t)
local_keeps P x type body t a h k m =
    either P (x && are_named (pieces body)) (each_declared type (pieces body)) (type ++ (body ++ t ∷ []))
    (each_keeps P type (pieces body) a h (pieces_keep P body k))
    (each_append P type (body ++ t ∷ []) h (each_append P body (t ∷ []) k (m, tt)))

words_keep : (P : Fact) (w : Walk) (p : Part) (type : Tokens) (t : Lexeme) → EachToken P type → P t.form
    → EachToken P (words_past w p type t)
words_keep P w part.Code type t h k = either P (begins w t.form) (t ∷ []) [] (k, tt) tt
words_keep P w part.Words type t h k =
    unless P (is_mark mark.Semicolon t.form) (words_added part.Words type t)
    (either P (adds_word part.Words t.form) (type ++ t ∷ []) type (each_append P type (t ∷ []) h (k, tt)) h)
words_keep P w part.Body type t h k =
    unless P (is_mark mark.Semicolon t.form) (words_added part.Body type t)
    (either P (adds_word part.Body t.form) (type ++ t ∷ []) type (each_append P type (t ∷ []) h (k, tt)) h)

body_keeps : (P : Fact) (p : Part) (body : Tokens) (t : Lexeme) → EachToken P body → P t.form
    → EachToken P (body_past p body t)
body_keeps P part.Code body t h k = tt
body_keeps P part.Words body t h k =
    unless P (is_mark mark.Semicolon t.form) (body_added part.Words body t)
    (either P (adds_word part.Words t.form) body (body ++ t ∷ []) h (each_append P body (t ∷ []) h (k, tt)))
body_keeps P part.Body body t h k =
    unless P (is_mark mark.Semicolon t.form) (body_added part.Body body t)
    (either P (adds_word part.Body t.form) body (body ++ t ∷ []) h (each_append P body (t ∷ []) h (k, tt)))

puts_keep : (P : Fact) (w : Walk) (p : Part) (type body : Tokens) (t : Lexeme) → Allows P → EachToken P type
    → EachToken P body → P t.form → EachToken P (puts w p type body t)
puts_keep P w part.Code type body t a h k m = unless P (begins w t.form) (t ∷ []) (m, tt)
puts_keep P w part.Words type body t a h k m =
    either P (is_mark mark.Semicolon t.form) (local w.has_list type body t) []
    (local_keeps P w.has_list type body t a h k m) tt
puts_keep P w part.Body type body t a h k m =
    either P (is_mark mark.Semicolon t.form) (local w.has_list type body t) []
    (local_keeps P w.has_list type body t a h k m) tt

walked_keeps : (P : Fact) (w : Walk) (type body ts : Tokens) → Allows P → EachToken P type → EachToken P body
    → EachToken P ts → EachToken P (walked w type body ts)
walked_keeps P w type body [] a h k m = each_append P type body h k
walked_keeps P w type body (t ∷ ts) a h k m =
    each_append P (puts w w.part type body t)
    (walked (past w t ts) (words_past w w.part type t) (body_past w.part body t) ts)
    (puts_keep P w w.part type body t a h k m.0)
    (walked_keeps P (past w t ts) (words_past w w.part type t) (body_past w.part body t) ts a
    (words_keep P w w.part type t h m.0) (body_keeps P w.part body t k m.0) m.1)

-- it holds of each token that comes out
pub values_keep : (P : Fact) (ts : Tokens) → Allows P → EachToken P ts → EachToken P (with_values ts)
values_keep P ts a h = walked_keeps P beginning [] [] ts a tt tt h
