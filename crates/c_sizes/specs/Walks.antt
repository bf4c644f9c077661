-- What is known before a token of a unit.
use Rattle.std.specs.Prelude.{ℕ, Bool, true, false, if◌then◌else◌, Option, Some, None, codes}
use Rattle.c_tree.specs.declared.Form.{Form}
use Rattle.c_tree.specs.declared.Form.TheVariants as form
use Rattle.c_tree.specs.declared.Key.{Key}
use Rattle.c_tree.specs.declared.Key.TheVariants as key
use Rattle.c_tree.specs.declared.Mark.{Mark}
use Rattle.c_tree.specs.declared.Mark.TheVariants as mark
use Rattle.c_lex.specs.Bytes.{Bytes}
use Rattle.c_lex.specs.Lexes.{Tokens}
use Rattle.c_library.specs.Calls.{is_mark}
use Rattle.c_sizes.specs.declared.nest.Opened.{Opened}
use Rattle.c_sizes.specs.declared.nest.Opened.TheVariants as opened
use Rattle.c_sizes.specs.declared.shape.Shape.{Shape}
use Rattle.c_sizes.specs.declared.walk.Front.{Front}
use Rattle.c_sizes.specs.declared.walk.Front.TheVariants as front
use Rattle.c_sizes.specs.declared.walk.Walk.{Walk}
use Rattle.c_sizes.specs.Nests as nests
use Rattle.c_sizes.specs.Scopes as scopes
use Rattle.c_sizes.specs.Shapes.{untold, function, scalar, shape}

-- before the first token
abbrev pub start : Walk
start = record { front = front.Other; nest = nests.beginning; known = scopes.none }

-- WHAT STANDS IN FRONT

-- the bytes of the type whose words stand in front, or those of int
abbrev pub bytes_so_far : Front → ℕ
bytes_so_far (front.Type b) = b
bytes_so_far _ = 4

-- behind a keyword (6.2.5): `unsigned`, `signed` and `int` say no number of bytes beside another word
abbrev pub front_past_key : Front → Key → Front
front_past_key f key.Void = front.Type 0
front_past_key f key.Char = front.Type 1
front_past_key f key.Bool = front.Type 1
front_past_key f key.Short = front.Type 2
front_past_key f key.Long = front.Type 8
front_past_key f key.Int = front.Type (bytes_so_far f)
front_past_key f key.Signed = front.Type (bytes_so_far f)
front_past_key f key.Unsigned = front.Type (bytes_so_far f)
front_past_key f key.For = front.For
front_past_key f _ = front.Other

-- behind a token
abbrev pub front_past : Front → Form → Front
front_past f (form.Key k) = front_past_key f k
front_past f (form.Mark m) = if is_mark mark.Comma (form.Mark m) then front.Comma else front.Other
front_past f _ = front.Other

-- is it directly behind `for`?
abbrev pub is_behind_for : Front → Bool
is_behind_for front.For = true
is_behind_for _ = false

-- WHAT IS DECLARED

-- The bytes of the type that a name which stands here is declared with, if it is: directly behind the words of a
-- type; or behind a `,` in no bracket that was opened since the declaration began.
abbrev pub declares_by : Front → Option ℕ → Option ℕ
declares_by (front.Type b) o = Some b
declares_by front.Comma o = o
declares_by _ o = None

abbrev pub declares : Walk → Option ℕ
declares w = declares_by w.front w.nest.inner.declares

-- What a name is that is declared within this: of a name in the parentheses of a `for` no size is told, since it ends
-- with the statement.
abbrev pub shape_in : Opened → ℕ → Tokens → Shape
shape_in opened.For b ts = untold
shape_in opened.Paren b ts = shape true b ts
shape_in _ b ts = shape false b ts

-- with a name that is declared before these tokens, with a type of so many bytes
abbrev pub with_name : ℕ → Bytes → Tokens → Walk → Walk
with_name b v ts w = record w {
  nest = nests.declare (Some b) w.nest;
  known = scopes.with_name (nests.is_outside w.nest) v (shape_in w.nest.inner.opened b ts) w.known;
}

-- with it, if it is declared
abbrev pub with_declared : Option ℕ → Bytes → Tokens → Walk → Walk
with_declared None v ts w = w
with_declared (Some b) v ts w = with_name b v ts w

-- THE LIBRARY

-- a function of the library that gives an int, and a constant of that type (7.21.1, 7.21.7.6, 7.21.7.8)
abbrev pub getchar_name : Bytes
getchar_name = codes "getchar"

abbrev pub putchar_name : Bytes
putchar_name = codes "putchar"

abbrev pub eof_name : Bytes
eof_name = codes "EOF"

-- with what an include of `<stdio.h>` declares
abbrev pub with_library : Walk → Walk
with_library w = record w {
  known = scopes.with_name true getchar_name (function 4)
      (scopes.with_name true putchar_name (function 4) (scopes.with_name true eof_name (scalar 4) w.known));
}

-- BEHIND A TOKEN

-- behind a punctuator, but for what stands in front
abbrev pub past_mark : Mark → Walk → Walk
past_mark m w =
    let n = nests.past (is_behind_for w.front) m w.nest in
    record w { nest = n; known = scopes.past (nests.is_outside n) m w.known }

-- behind a token, which stands before these, but for what stands in front
abbrev pub past_form : Form → Tokens → Walk → Walk
past_form (form.Name v) ts w = with_declared (declares w) v ts w
past_form (form.Mark m) ts w = past_mark m w
past_form form.Include ts w = with_library w
past_form _ ts w = w

-- behind a token, which stands before these
abbrev pub past : Form → Tokens → Walk → Walk
past f ts w = record (past_form f ts w) { front = front_past w.front f }
