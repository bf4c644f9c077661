-- What sets the elements of an array, one after another (C17 6.7.9, paragraphs 20 and 21).
use Rattle.std.specs.Prelude.{ℕ, ◌+◌, ◌%◌, Bool, false, nat_eq, if◌then◌else◌, List, [], ◌∷◌, ◌++◌, codes}
use Rattle.c_tree.specs.declared.Form.{Form}
use Rattle.c_tree.specs.declared.Form.TheVariants as form
use Rattle.c_tree.specs.declared.Key.TheVariants as key
use Rattle.c_tree.specs.declared.Kind.TheVariants as kind
use Rattle.c_tree.specs.declared.Mark.{Mark}
use Rattle.c_tree.specs.declared.Mark.TheVariants as mark
use Rattle.c_tree.specs.declared.Lexeme.{Lexeme}
use Rattle.c_lex.specs.Bytes.{Bytes}
use Rattle.c_lex.specs.Lexes.{Tokens}
use Rattle.c_library.specs.Places.{tokens}
use Rattle.c_locals.specs.Brackets.{divides, depth_past}

-- NUMBERS AND INDEXES

-- a number of values as a constant of type int: a text has fewer than 2^31
abbrev pub number : ℕ → Form
number n = form.Number (n % 2147483648) kind.Int

-- one punctuator, at this place
abbrev pub marked : ℕ → Mark → Tokens
marked at m = tokens at (form.Mark m ∷ [])

-- tokens in brackets
abbrev pub bracketed : ℕ → Tokens → Tokens
bracketed at ts = marked at mark.LeftBracket ++ (ts ++ marked at mark.RightBracket)

-- `NAME [ i ]`, where NAME stands for these tokens
abbrev pub element : ℕ → Tokens → Form → Tokens
element at of i = of ++ bracketed at (tokens at (i ∷ []))

-- `NAME [ i ] =`
abbrev pub assigns : ℕ → Tokens → ℕ → Tokens
assigns at of i = element at of (number i) ++ marked at mark.Assign

-- VALUES

-- the index behind a token of values: a comma outside of brackets is behind a value
abbrev pub index_past : ℕ → ℕ → Lexeme → ℕ
index_past i d t = if divides mark.Comma d t then i + 1 else i

-- behind a value: the next assignment, unless no value follows
abbrev pub next : ℕ → Tokens → ℕ → Tokens → Tokens
next at of i [] = []
next at of i (t ∷ ts) = marked at mark.Semicolon ++ assigns at of i

-- what stands for a token of the value at this index, where so many brackets are open, before these tokens
abbrev pub here : ℕ → Tokens → ℕ → ℕ → Lexeme → Tokens → Tokens
here at of i d t ts = if divides mark.Comma d t then next at of (i + 1) ts else t ∷ []

-- the rest of the value at this index and the others
abbrev pub set_from : ℕ → Tokens → ℕ → ℕ → Tokens → Tokens
set_from at of i d [] = marked at mark.Semicolon
set_from at of i d (t ∷ ts) =
    here at of i d t ts ++ set_from at of (index_past i d t) (depth_past t.form d) ts

-- The values of a list, each set at its index: a comma between two ends a statement and begins the next, and one
-- behind the last is nothing.
abbrev pub set_all : ℕ → Tokens → Tokens → Tokens
set_all at of values = assigns at of 0 ++ set_from at of 0 0 values

-- the first number at the end of tokens, or the second
abbrev pub at_end : Tokens → ℕ → ℕ → ℕ
at_end [] n more = n
at_end (t ∷ ts) n more = more

-- how many values there are, behind so many and where so many brackets are open
abbrev pub count_from : ℕ → ℕ → Tokens → ℕ
count_from n d [] = n
count_from n d (t ∷ ts) = at_end ts (n + 1) (count_from (index_past n d t) (depth_past t.form d) ts)

-- how many values a list has
abbrev pub count : Tokens → ℕ
count values = count_from 0 0 values

-- ELEMENTS WITHOUT VALUES

-- the names of the counters of rows and of elements, which no text can say
abbrev pub row_counter : Bytes
row_counter = codes ".row"

abbrev pub counter : Bytes
counter = codes ".element"

-- is it this number?
abbrev pub is_number : ℕ → Form → Bool
is_number n (form.Number v k) = nat_eq v n
is_number n _ = false

-- is the size this number, and nothing else?
abbrev pub is_just : ℕ → Tokens → Bool
is_just n (t ∷ []) = is_number n t.form
is_just n _ = false

-- a name
abbrev pub named : Bytes → Form
named w = form.Name w

-- `for ( int NAME`
abbrev pub loop_begins : ℕ → Bytes → Tokens
loop_begins at name =
    tokens at (form.Key key.For ∷ form.Mark mark.LeftParen ∷ form.Key key.Int ∷ form.Name name ∷ [])

-- `= n ; NAME`
abbrev pub loop_starts : ℕ → Bytes → ℕ → Tokens
loop_starts at name n =
    tokens at (form.Mark mark.Assign ∷ number n ∷ form.Mark mark.Semicolon ∷ form.Name name ∷ [])

-- `< (`
abbrev pub loop_tests : ℕ → Tokens
loop_tests at = tokens at (form.Mark mark.Less ∷ form.Mark mark.LeftParen ∷ [])

-- `) ; NAME`
abbrev pub loop_steps : ℕ → Bytes → Tokens
loop_steps at name = tokens at (form.Mark mark.RightParen ∷ form.Mark mark.Semicolon ∷ form.Name name ∷ [])

-- `++ )`
abbrev pub loop_ends : ℕ → Tokens
loop_ends at = tokens at (form.Mark mark.PlusPlus ∷ form.Mark mark.RightParen ∷ [])

-- `SIZE ) ; NAME ++ )`
abbrev pub loop_rest : ℕ → Bytes → Tokens → Tokens
loop_rest at name size = size ++ (loop_steps at name ++ loop_ends at)

-- `for ( int NAME = n ; NAME < ( SIZE ) ; NAME ++ )`
unfoldable pub loop_head : ℕ → Bytes → ℕ → Tokens → Tokens
loop_head at name n size = loop_begins at name ++ (loop_starts at name n ++ (loop_tests at ++ loop_rest at name size))

-- `= 0 ;`
abbrev pub zeroes : ℕ → Tokens
zeroes at = tokens at (form.Mark mark.Assign ∷ number 0 ∷ form.Mark mark.Semicolon ∷ [])

-- sets the element of the counter to 0
abbrev pub zero_at : ℕ → Tokens → Tokens
zero_at at of = element at of (form.Name counter) ++ zeroes at

-- a loop that sets the elements from this index on to 0
abbrev pub zero_loop : ℕ → Tokens → ℕ → Tokens → Tokens
zero_loop at of n size = loop_head at counter n size ++ zero_at at of

-- what sets the elements from this index on to 0, with this size or none
abbrev pub zero_from : ℕ → Tokens → ℕ → Tokens → Tokens
zero_from at of n [] = []
zero_from at of n size = if is_just n size then [] else zero_loop at of n size

-- a list's values, and 0 for what has none
abbrev pub filled : ℕ → Tokens → Tokens → Tokens → Tokens
filled at of size values = set_all at of values ++ zero_from at of (count values) size
