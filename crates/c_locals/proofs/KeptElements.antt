-- What holds of all tokens and of all that may be added holds of what sets elements.
use Rattle.std.proofs.Common.{◌≡◌, ◌<◌, ℕ, ◌+◌, ◌%◌, ◌^◌, Bool, true, false, cond, List, [], ◌∷◌, ◌++◌, Option, Some}
use Rattle.std.proofs.Common.{None, refl, arith, mod-lt}
use Rattle.c_tree.specs.declared.Form.{Form}
use Rattle.c_tree.specs.declared.Key.TheVariants as key
use Rattle.c_tree.specs.declared.Kind.TheVariants as kind
use Rattle.c_tree.specs.declared.Mark.{Mark}
use Rattle.c_tree.specs.declared.Mark.TheVariants as mark
use Rattle.c_tree.specs.declared.Lexeme.{Lexeme}
use Rattle.c_lex.specs.Bytes.{Bytes}
use Rattle.c_lex.specs.Lexes.{Tokens}
use Rattle.c_library.specs.Places.{tokens}
use Rattle.c_library.proofs.Holds.{Fact, EachToken, Allows, each_append}
use Rattle.c_locals.specs.Brackets.{Parts, depth_past, divides, in_front, split_from, split, before_first, pieces_from}
use Rattle.c_locals.specs.Brackets.{pieces}
use Rattle.c_locals.specs.Elements.{number, marked, bracketed, element, assigns, index_past, next, here, set_from}
use Rattle.c_locals.specs.Elements.{set_all, count, row_counter, counter, is_just, named, loop_begins, loop_starts}
use Rattle.c_locals.specs.Elements.{loop_tests, loop_steps, loop_ends, loop_head, zeroes, zero_at, zero_from, filled}

-- PARTS AND PIECES

-- it holds of both parts
abbrev pub EachPart : Fact → Option Parts → Type 0
EachPart P None = Unit {0}
EachPart P (Some (a, b)) = EachToken P a × EachToken P b

-- it holds of each piece
abbrev pub EachPiece : Fact → List Tokens → Type 0
EachPiece P [] = Unit {0}
EachPiece P (p ∷ ps) = EachToken P p × EachPiece P ps

front : (P : Fact) (t : Lexeme) (o : Option Parts) → P t.form → EachPart P o → EachPart P (in_front t o)
front P t None h k = tt
front P t (Some (a, b)) h k = ((h, k.0), k.1)

parts_by : (P : Fact) (x : Bool) (t : Lexeme) (ts : Tokens) (o : Option Parts) → P t.form → EachToken P ts
    → EachPart P o → EachPart P (cond x (Some ([], ts)) (in_front t o))
parts_by P true t ts o h k m = (tt, k)
parts_by P false t ts o h k m = front P t o h m

parts_from : (P : Fact) (m : Mark) (d : ℕ) (ts : Tokens) → EachToken P ts → EachPart P (split_from m d ts)
parts_from P m d [] h = tt
parts_from P m d (t ∷ ts) h =
    parts_by P (divides m d t) t ts (split_from m (depth_past t.form d) ts) h.0 h.1
    (parts_from P m (depth_past t.form d) ts h.1)

-- the parts of tokens
pub parts_keep : (P : Fact) (m : Mark) (ts : Tokens) → EachToken P ts → EachPart P (split m ts)
parts_keep P m ts h = parts_from P m 0 ts h

first : (P : Fact) (t : Lexeme) (ps : List Tokens) → P t.form → EachPiece P ps → EachPiece P (before_first t ps)
first P t [] h k = ((h, tt), tt)
first P t (p ∷ ps) h k = ((h, k.0), k.1)

pieces_by : (P : Fact) (x : Bool) (t : Lexeme) (ps qs : List Tokens) → P t.form → EachPiece P ps → EachPiece P qs
    → EachPiece P (cond x ([] ∷ ps) (before_first t qs))
pieces_by P true t ps qs h k m = (tt, k)
pieces_by P false t ps qs h k m = first P t qs h m

pieces_from_keep : (P : Fact) (d : ℕ) (ts : Tokens) → EachToken P ts → EachPiece P (pieces_from d ts)
pieces_from_keep P d [] h = (tt, tt)
pieces_from_keep P d (t ∷ ts) h =
    pieces_by P (divides mark.Comma d t) t (pieces_from 0 ts) (pieces_from (depth_past t.form d) ts) h.0
    (pieces_from_keep P 0 ts h.1) (pieces_from_keep P (depth_past t.form d) ts h.1)

-- the pieces of tokens
pub pieces_keep : (P : Fact) (ts : Tokens) → EachToken P ts → EachPiece P (pieces ts)
pieces_keep P ts h = pieces_from_keep P 0 ts h

-- ELEMENTS

below : (n : ℕ) → n % 2147483648 < 2 ^ 31
below n = mod-lt n (omega arith)

-- a number of values
pub number_keeps : (P : Fact) (n : ℕ) → Allows P → P (number n)
number_keeps P n a = a.number (n % 2147483648) kind.Int (below n) refl

pub marked_keeps : (P : Fact) (at : ℕ) (m : Mark) → Allows P → EachToken P (marked at m)
marked_keeps P at m a = (a.mark m, tt)

pub bracketed_keeps : (P : Fact) (at : ℕ) (ts : Tokens) → Allows P → EachToken P ts → EachToken P (bracketed at ts)
bracketed_keeps P at ts a h =
    each_append P (marked at mark.LeftBracket) (ts ++ marked at mark.RightBracket)
    (marked_keeps P at mark.LeftBracket a)
    (each_append P ts (marked at mark.RightBracket) h (marked_keeps P at mark.RightBracket a))

pub element_keeps : (P : Fact) (at : ℕ) (of : Tokens) (i : Form) → Allows P → EachToken P of → P i
    → EachToken P (element at of i)
element_keeps P at of i a h k =
    each_append P of (bracketed at (tokens at (i ∷ []))) h (bracketed_keeps P at (tokens at (i ∷ [])) a (k, tt))

assigns_keeps : (P : Fact) (at : ℕ) (of : Tokens) (i : ℕ) → Allows P → EachToken P of → EachToken P (assigns at of i)
assigns_keeps P at of i a h =
    each_append P (element at of (number i)) (marked at mark.Assign)
    (element_keeps P at of (number i) a h (number_keeps P i a)) (marked_keeps P at mark.Assign a)

next_keeps : (P : Fact) (at : ℕ) (of : Tokens) (i : ℕ) (ts : Tokens) → Allows P → EachToken P of
    → EachToken P (next at of i ts)
next_keeps P at of i [] a h = tt
next_keeps P at of i (t ∷ ts) a h =
    each_append P (marked at mark.Semicolon) (assigns at of i) (marked_keeps P at mark.Semicolon a)
    (assigns_keeps P at of i a h)

here_by : (P : Fact) (x : Bool) (xs : Tokens) (t : Lexeme) → EachToken P xs → P t.form
    → EachToken P (cond x xs (t ∷ []))
here_by P true xs t h k = h
here_by P false xs t h k = (k, tt)

set_from_keeps : (P : Fact) (at : ℕ) (of : Tokens) (i d : ℕ) (ts : Tokens) → Allows P → EachToken P of
    → EachToken P ts → EachToken P (set_from at of i d ts)
set_from_keeps P at of i d [] a h k = marked_keeps P at mark.Semicolon a
set_from_keeps P at of i d (t ∷ ts) a h k =
    each_append P (here at of i d t ts) (set_from at of (index_past i d t) (depth_past t.form d) ts)
    (here_by P (divides mark.Comma d t) (next at of (i + 1) ts) t (next_keeps P at of (i + 1) ts a h) k.0)
    (set_from_keeps P at of (index_past i d t) (depth_past t.form d) ts a h k.1)

set_all_keeps : (P : Fact) (at : ℕ) (of ts : Tokens) → Allows P → EachToken P of → EachToken P ts
    → EachToken P (set_all at of ts)
set_all_keeps P at of ts a h k =
    each_append P (assigns at of 0) (set_from at of 0 0 ts) (assigns_keeps P at of 0 a h)
    (set_from_keeps P at of 0 0 ts a h k)

-- ELEMENTS WITHOUT VALUES

pub loop_keeps : (P : Fact) (at : ℕ) (name : Bytes) (n : ℕ) (size : Tokens) → Allows P → EachToken P size
    → EachToken P (loop_head at name n size)
unfolding loop_head
loop_keeps P at name n size a h =
    let begins : EachToken P (loop_begins at name) =
    (a.key key.For, (a.mark mark.LeftParen, (a.key key.Int, (a.name name, tt)))) in
    let starts : EachToken P (loop_starts at name n) =
    (a.mark mark.Assign, (number_keeps P n a, (a.mark mark.Semicolon, (a.name name, tt)))) in
    let tests : EachToken P (loop_tests at) = (a.mark mark.Less, (a.mark mark.LeftParen, tt)) in
    let steps : EachToken P (loop_steps at name) =
    (a.mark mark.RightParen, (a.mark mark.Semicolon, (a.name name, tt))) in
    let ends : EachToken P (loop_ends at) = (a.mark mark.PlusPlus, (a.mark mark.RightParen, tt)) in
    each_append P (loop_begins at name)
    (loop_starts at name n ++ (loop_tests at ++ (size ++ (loop_steps at name ++ loop_ends at)))) begins
    (each_append P (loop_starts at name n) (loop_tests at ++ (size ++ (loop_steps at name ++ loop_ends at))) starts
    (each_append P (loop_tests at) (size ++ (loop_steps at name ++ loop_ends at)) tests
    (each_append P size (loop_steps at name ++ loop_ends at) h
    (each_append P (loop_steps at name) (loop_ends at) steps ends))))

zero_at_keeps : (P : Fact) (at : ℕ) (of : Tokens) → Allows P → EachToken P of → EachToken P (zero_at at of)
zero_at_keeps P at of a h =
    let zero : EachToken P (zeroes at) = (a.mark mark.Assign, (number_keeps P 0 a, (a.mark mark.Semicolon, tt))) in
    each_append P (element at of (named counter)) (zeroes at)
    (element_keeps P at of (named counter) a h (a.name counter)) zero

-- nothing, or these
pub unless : (P : Fact) (x : Bool) (xs : Tokens) → EachToken P xs → EachToken P (cond x [] xs)
unless P true xs h = tt
unless P false xs h = h

pub zero_from_keeps : (P : Fact) (at : ℕ) (of : Tokens) (n : ℕ) (size : Tokens) → Allows P → EachToken P of
    → EachToken P size → EachToken P (zero_from at of n size)
zero_from_keeps P at of n [] a h k = tt
zero_from_keeps P at of n (t ∷ ts) a h k =
    unless P (is_just n (t ∷ ts)) (loop_head at counter n (t ∷ ts) ++ zero_at at of)
    (each_append P (loop_head at counter n (t ∷ ts)) (zero_at at of) (loop_keeps P at counter n (t ∷ ts) a k)
    (zero_at_keeps P at of a h))

-- what sets the elements of an array
pub filled_keeps : (P : Fact) (at : ℕ) (of size ts : Tokens) → Allows P → EachToken P of → EachToken P size
    → EachToken P ts → EachToken P (filled at of size ts)
filled_keeps P at of size ts a h k m =
    each_append P (set_all at of ts) (zero_from at of (count ts) size) (set_all_keeps P at of ts a h m)
    (zero_from_keeps P at of (count ts) size a h k)
