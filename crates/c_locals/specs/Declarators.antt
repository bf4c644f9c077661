-- Local arrays with values, as declarations without and statements that set each element (C17 6.7.9).
use Rattle.std.specs.Prelude.{ℕ, ◌+◌, Bool, true, false, is_none, if◌then◌else◌, List, [], ◌∷◌, ◌++◌, Option}
use Rattle.std.specs.Prelude.{Some, None}
use Rattle.c_tree.specs.declared.Mark.TheVariants as mark
use Rattle.c_tree.specs.declared.Lexeme.{Lexeme}
use Rattle.c_lex.specs.Lexes.{Tokens}
use Rattle.c_library.specs.Calls.{is_mark}
use Rattle.c_library.specs.Places.{tokens}
use Rattle.c_locals.specs.Brackets.{Parts, split, pieces}
use Rattle.c_locals.specs.Elements.{number, marked, bracketed, element, count, named, row_counter}
use Rattle.c_locals.specs.Elements.{is_just, loop_head}
use Rattle.c_locals.specs.Elements.{zero_from, filled}

-- PARTS OF A DECLARATOR

-- what stands before the brace, if it is not nothing and if nothing stands behind
abbrev pub whole : Option Parts → Option Tokens
whole (Some (v ∷ vs, [])) = Some (v ∷ vs)
whole _ = None

-- what stands in the braces, if these are all
abbrev pub braced : Tokens → Option Tokens
braced [] = None
braced (t ∷ ts) = if is_mark mark.LeftBrace t.form then whole (split mark.RightBrace ts) else None

-- what stands in the braces behind a `=`
abbrev pub list_of : Tokens → Option Tokens
list_of [] = None
list_of (t ∷ ts) = if is_mark mark.Assign t.form then braced ts else None

-- what stands in the brackets, and what behind them
abbrev pub sized : Tokens → Option Parts
sized [] = None
sized (t ∷ ts) = if is_mark mark.LeftBracket t.form then split mark.RightBracket ts else None

-- ONE DECLARATOR, with the words of its type, its name and what stands behind it

-- `TYPE NAME .. ;`
abbrev pub plain : Tokens → Lexeme → Tokens → Tokens
plain type n ts = type ++ (n ∷ (ts ++ marked n.offset mark.Semicolon))

-- `TYPE NAME = VALUE ;`
abbrev pub scalar : Tokens → Lexeme → Tokens → Tokens
scalar type n value = plain type n (marked n.offset mark.Assign ++ value)

-- a scalar with its value in braces, which may stand before a comma (paragraph 11)
abbrev pub scalar_if : Tokens → Lexeme → Tokens → Tokens → Option Parts → Tokens
scalar_if type n ts value None = scalar type n value
scalar_if type n ts value (Some (before, [])) = scalar type n before
scalar_if type n ts value (Some (before, t ∷ behind)) = plain type n ts

-- the size, which is the number of values where it is left out (paragraph 22)
abbrev pub size_of : ℕ → Tokens → ℕ → Tokens
size_of at [] n = tokens at (number n ∷ [])
size_of at size n = size

-- `TYPE NAME [ SIZE ] ;`, and what sets the elements
abbrev pub array : Tokens → Lexeme → Tokens → Tokens → Tokens
array type n size values =
    plain type n (bracketed n.offset (size_of n.offset size (count values)))
    ++ filled n.offset (n ∷ []) size values

-- is the piece nothing, behind a comma that is the last?
abbrev pub ends : Tokens → List Tokens → Bool
ends [] [] = true
ends _ _ = false

-- how many rows there are, behind so many, if all are in braces; a comma may stand behind the last
abbrev pub rows_from : ℕ → List Tokens → Option ℕ
rows_from k [] = Some k
rows_from k (p ∷ ps) =
    if ends p ps then Some k else if is_none (braced p) then None else rows_from (k + 1) ps

-- a row with this number
abbrev pub set_row : Lexeme → Tokens → ℕ → Option Tokens → Tokens
set_row n width k None = []
set_row n width k (Some values) = filled n.offset (element n.offset (n ∷ []) (number k)) width values

-- the rows from this number on
abbrev pub set_rows : Lexeme → Tokens → ℕ → List Tokens → Tokens
set_rows n width k [] = []
set_rows n width k (p ∷ ps) = set_row n width k (braced p) ++ set_rows n width (k + 1) ps

-- what sets the row of the counter to 0
abbrev pub zero_width : Lexeme → Tokens → Tokens
zero_width n width = zero_from n.offset (element n.offset (n ∷ []) (named row_counter)) 0 width

-- a loop over the rows from this number on that sets each to 0
abbrev pub zero_row : Lexeme → Tokens → Tokens → ℕ → Tokens
zero_row n height width k = loop_head n.offset row_counter k height ++ zero_width n width

-- what sets the rows from this number on to 0
abbrev pub zero_rows : Lexeme → Tokens → Tokens → ℕ → Tokens
zero_rows n [] width k = []
zero_rows n height width k = if is_just k height then [] else zero_row n height width k

-- `TYPE NAME [ HEIGHT ] [ WIDTH ] ;`, and what sets the rows
abbrev pub grid : Tokens → Lexeme → Tokens → Tokens → List Tokens → ℕ → Tokens
grid type n height width rows k =
    plain type n (bracketed n.offset (size_of n.offset height k) ++ bracketed n.offset width)
    ++ (set_rows n width 0 rows ++ zero_rows n height width k)

-- WHICH OF THESE IT IS

-- with two sizes and values
abbrev pub grid_if : Tokens → Lexeme → Tokens → Tokens → Tokens → List Tokens → Option ℕ → Tokens
grid_if type n ts height width rows None = plain type n ts
grid_if type n ts height width rows (Some k) = grid type n height width rows k

-- with two sizes, and values or none
abbrev pub grid_by : Tokens → Lexeme → Tokens → Tokens → Tokens → Option Tokens → Tokens
grid_by type n ts height width None = plain type n ts
grid_by type n ts height width (Some values) =
    grid_if type n ts height width (pieces values) (rows_from 0 (pieces values))

-- with one size and no values
abbrev pub second_by : Tokens → Lexeme → Tokens → Tokens → Option Parts → Tokens
second_by type n ts height None = plain type n ts
second_by type n ts height (Some (width, behind)) = grid_by type n ts height width (list_of behind)

-- with one size, and values or none
abbrev pub array_by : Tokens → Lexeme → Tokens → Tokens → Tokens → Option Tokens → Tokens
array_by type n ts size behind (Some values) = array type n size values
array_by type n ts size behind None = second_by type n ts size (sized behind)

-- with no value in braces
abbrev pub first_by : Tokens → Lexeme → Tokens → Option Parts → Tokens
first_by type n ts None = plain type n ts
first_by type n ts (Some (size, behind)) = array_by type n ts size behind (list_of behind)

-- with a value in braces or none
abbrev pub value_by : Tokens → Lexeme → Tokens → Option Tokens → Tokens
value_by type n ts (Some value) = scalar_if type n ts value (split mark.Comma value)
value_by type n ts None = first_by type n ts (sized ts)

-- A declarator as a declaration of its own: lists in braces are statements, and what is none of these stays.
abbrev pub declared : Tokens → Lexeme → Tokens → Tokens
declared type n ts = value_by type n ts (list_of ts)
