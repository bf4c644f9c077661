-- What holds of each token of a unit and of all that may be added holds of the unit's with constants for sizes.
use Rattle.std.proofs.Common.{ℕ, zero, suc, Bool, true, false, cond, nat_eq, List, [], ◌∷◌}
use Rattle.std.specs.Prelude.{Option, Some, None}
use Rattle.std.specs.Str.{bytes_eq}
use Rattle.c_tree.specs.declared.Form.{Form}
use Rattle.c_tree.specs.declared.Form.TheVariants as form
use Rattle.c_tree.specs.declared.Lexeme.{Lexeme}
use Rattle.c_tree.specs.declared.Mark.{Mark}
use Rattle.c_tree.specs.declared.Mark.TheVariants as mark
use Rattle.c_lex.specs.Bytes.{Bytes}
use Rattle.c_lex.specs.Lexes.{Tokens}
use Rattle.c_library.specs.Places.{tokens}
use Rattle.c_locals.specs.Brackets.{Parts, split}
use Rattle.c_library.proofs.Holds.{Fact, EachForm, EachToken, Allows, each_append}
use Rattle.c_sizes.specs.declared.known.Entry.{Entry}
use Rattle.c_sizes.specs.declared.known.Entry.TheVariants as entry
use Rattle.c_sizes.specs.declared.known.Known.{Known}
use Rattle.c_sizes.specs.declared.nest.Opened.{Opened}
use Rattle.c_sizes.specs.declared.nest.Opened.TheVariants as opened
use Rattle.c_sizes.specs.declared.shape.Shape.{Shape}
use Rattle.c_sizes.specs.declared.walk.Walk.{Walk}
use Rattle.c_sizes.specs.Indexes.{Indexed, indexed}
use Rattle.c_sizes.specs.Nests as nests
use Rattle.c_sizes.specs.Objects.{Told, untold, is_end, with_indexes, size_by, size_of, bare, inner_name, inner_by}
use Rattle.c_sizes.specs.Objects.{inner, grouped, object_by, object}
use Rattle.c_sizes.specs.Operands.{is_sizeof, Valued, valued, by_value, or_by_value, told}
use Rattle.c_sizes.specs.Scopes as scopes
use Rattle.c_sizes.specs.Sized.{Sized, unsized, counted, size_at, stands_for, left_out, sized_from}
use Rattle.c_sizes.specs.Walks.{start, declares, shape_in, with_declared, with_library, past_mark, past_form, past}
use Rattle.c_sizes.specs.Widths.{bytes}
use Rattle.c_sizes.proofs.KeptShapes.{EachOf, either, alone_has, function_has, scalar_has, shape_has, none_has}

-- NAMES

-- it holds of the sizes of each name
abbrev pub EachEntry : Fact → List Entry → Type 0
EachEntry P [] = Unit {0}
EachEntry P (entry.Block ∷ es) = EachEntry P es
EachEntry P (entry.Name w s ∷ es) = EachOf P s × EachEntry P es

pub record EachKnown (P : Fact) (k : Known) : Type 0 where
  pub file : EachEntry P k.file
  pub inner : EachEntry P k.inner

-- there is none before the first token
pub starts : (P : Fact) → EachKnown P start.known
starts P = record { file = tt; inner = tt }

closed_has : (P : Fact) (es : List Entry) → EachEntry P es → EachEntry P (scopes.closed es)
closed_has P [] h = tt
closed_has P (entry.Block ∷ es) h = h
closed_has P (entry.Name w s ∷ es) h = closed_has P es h.1

ended_has : (P : Fact) (b : Bool) (k : Known) → EachKnown P k → EachKnown P (scopes.ended b k)
ended_has P true k h = record { file = h.file; inner = tt }
ended_has P false k h = h

scope_has : (P : Fact) (b : Bool) (m : Mark) (k : Known) → EachKnown P k → EachKnown P (scopes.past b m k)
scope_has P b mark.LeftBrace k h = record { file = h.file; inner = h.inner }
scope_has P b mark.RightBrace k h =
    ended_has P b (record k { inner = scopes.closed k.inner })
    (record { file = h.file; inner = closed_has P k.inner h.inner })
scope_has P b mark.Semicolon k h = ended_has P b k h
scope_has P b _ k h = h

name_has : (P : Fact) (b : Bool) (w : Bytes) (s : Shape) (k : Known) → EachOf P s → EachKnown P k
    → EachKnown P (scopes.with_name b w s k)
name_has P true w s k h g = record { file = (h, g.file); inner = g.inner }
name_has P false w s k h g = record { file = g.file; inner = (h, g.inner) }

in_has : (P : Fact) (o : Opened) (b : ℕ) (ts : Tokens) → Allows P → EachToken P ts → EachOf P (shape_in o b ts)
in_has P opened.For b ts a h = none_has P
in_has P opened.Paren b ts a h = shape_has P true b ts a h
in_has P _ b ts a h = shape_has P false b ts a h

declared_has : (P : Fact) (o : Option ℕ) (v : Bytes) (ts : Tokens) (w : Walk) → Allows P → EachToken P ts
    → EachKnown P w.known → EachKnown P (with_declared o v ts w).known
declared_has P None v ts w a h k = k
declared_has P (Some b) v ts w a h k =
    name_has P (nests.is_outside w.nest) v (shape_in w.nest.inner.opened b ts) w.known
    (in_has P w.nest.inner.opened b ts a h) k

library_has : (P : Fact) (w : Walk) → Allows P → EachKnown P w.known → EachKnown P (with_library w).known
library_has P w a k = record {
  file = (function_has P 4, (function_has P 4, (scalar_has P 4 a, k.file)));
  inner = k.inner;
}

form_has : (P : Fact) (f : Form) (ts : Tokens) (w : Walk) → Allows P → EachToken P ts → EachKnown P w.known
    → EachKnown P (past_form f ts w).known
form_has P (form.Name v) ts w a h k = declared_has P (declares w) v ts w a h k
form_has P (form.Mark m) ts w a h k =
    scope_has P (nests.is_outside (past_mark m w).nest) m w.known k
form_has P form.Include ts w a h k = library_has P w a k
form_has P _ ts w a h k = k

-- WHAT STANDS FOR A SIZE

abbrev HasIt : Fact → Option Shape → Type 0
HasIt P None = Unit {0}
HasIt P (Some s) = EachOf P s

found_has : (P : Fact) (w : Bytes) (es : List Entry) → EachEntry P es → HasIt P (scopes.found w es)
found_has P w [] h = tt
found_has P w (entry.Block ∷ es) h = found_has P w es h
found_has P w (entry.Name v s ∷ es) h =
    either (HasIt P) (bytes_eq w v) (Some s) (scopes.found w es) h.0 (found_has P w es h.1)

or_has : (P : Fact) (o q : Option Shape) → HasIt P o → HasIt P q → HasIt P (scopes.or_else o q)
or_has P None q h k = k
or_has P (Some s) q h k = h

find_has : (P : Fact) (w : Bytes) (k : Known) → EachKnown P k → HasIt P (scopes.find w k)
find_has P w k h =
    or_has P (scopes.found w k.inner) (scopes.found w k.file) (found_has P w k.inner h.inner)
    (found_has P w k.file h.file)

with_has : (P : Fact) (n : ℕ) (s : Shape) → EachOf P s → EachForm P (with_indexes n s)
with_has P n s h =
    either (EachForm P) (nat_eq n 0) s.whole (cond (nat_eq n 1) s.row s.element) h.whole
    (either (EachForm P) (nat_eq n 1) s.row s.element h.row h.element)

by_has : (P : Fact) (n : ℕ) (o : Option Shape) → HasIt P o → EachForm P (size_by n o)
by_has P n None h = tt
by_has P n (Some s) h = with_has P n s h

of_has : (P : Fact) (k : Known) (w : Bytes) (n : ℕ) → EachKnown P k → EachForm P (size_of k w n)
of_has P k w n h = by_has P n (scopes.find w k) (find_has P w k h)

-- it holds of each form of it
abbrev EachTold : Fact → Told → Type 0
EachTold P x = EachForm P x.0

bare_has : (P : Fact) (k : Known) (w : Bytes) (i : Indexed) → EachKnown P k → EachTold P (bare k w i)
bare_has P k w (n, ts) h = either (EachTold P) (is_end ts) (size_of k w n, ts) untold (of_has P k w n h) tt

inner_name_has : (P : Fact) (k : Known) (w : Bytes) (i : Indexed) → EachKnown P k → EachForm P (inner_name k w i)
inner_name_has P k w (n, []) h = of_has P k w n h
inner_name_has P k w (n, t ∷ ts) h = tt

inner_by_has : (P : Fact) (k : Known) (f : Form) (ts : Tokens) → EachKnown P k → EachForm P (inner_by k f ts)
inner_by_has P k (form.Name w) ts h = inner_name_has P k w (indexed k ts) h
inner_by_has P k _ ts h = tt

inner_has : (P : Fact) (k : Known) (ts : Tokens) → EachKnown P k → EachForm P (inner k ts)
inner_has P k [] h = tt
inner_has P k (t ∷ ts) h = inner_by_has P k t.form ts h

grouped_has : (P : Fact) (k : Known) (o : Option Parts) → EachKnown P k → EachTold P (grouped k o)
grouped_has P k None h = tt
grouped_has P k (Some (a, b)) h = either (EachTold P) (is_end b) (inner k a, b) untold (inner_has P k a h) tt

object_by_has : (P : Fact) (k : Known) (f : Form) (ts : Tokens) → EachKnown P k → EachTold P (object_by k f ts)
object_by_has P k (form.Name w) ts h = bare_has P k w (indexed k ts) h
object_by_has P k (form.Mark mark.LeftParen) ts h = grouped_has P k (split mark.RightParen ts) h
object_by_has P k _ ts h = tt

object_has : (P : Fact) (k : Known) (ts : Tokens) → EachKnown P k → EachTold P (object k ts)
object_has P k [] h = tt
object_has P k (t ∷ ts) h = object_by_has P k t.form ts h

value_has : (P : Fact) (v : Valued) → Allows P → EachTold P (by_value v)
value_has P None a = tt
value_has P (Some (w, ts)) a = alone_has P (bytes w) a

or_value_has : (P : Fact) (x : Told) (v : Valued) → Allows P → EachTold P x → EachTold P (or_by_value x v)
or_value_has P ([], ts) v a h = value_has P v a
or_value_has P (f ∷ fs, ts) v a h = h

told_has : (P : Fact) (k : Known) (ts : Tokens) → Allows P → EachKnown P k → EachTold P (told k ts)
told_has P k ts a h = or_value_has P (object k ts) (valued k ts) a (object_has P k ts h)

-- and of a size
abbrev EachSized : Fact → Sized → Type 0
EachSized P x = EachForm P x.0

counted_has : (P : Fact) (ts : Tokens) (x : Told) → EachTold P x → EachSized P (counted ts x)
counted_has P ts (fs, us) h = h

at_has : (P : Fact) (k : Known) (t : Lexeme) (ts : Tokens) → Allows P → EachKnown P k → EachSized P (size_at k t ts)
at_has P k t ts a h =
    either (EachSized P) (is_sizeof t.form) (counted ts (told k ts)) unsized
    (counted_has P ts (told k ts) (told_has P k ts a h)) tt

-- UNITS

tokens_have : (P : Fact) (at : ℕ) (fs : List Form) → EachForm P fs → EachToken P (tokens at fs)
tokens_have P at [] h = tt
tokens_have P at (f ∷ fs) h = (h.0, tokens_have P at fs h.1)

stands_has : (P : Fact) (t : Lexeme) (fs : List Form) → P t.form → EachForm P fs → EachToken P (stands_for t fs)
stands_has P t [] h k = (h, tt)
stands_has P t (f ∷ fs) h k = tokens_have P t.offset (f ∷ fs) k

-- it holds of each token from a place on
pub from_keeps : (P : Fact) (w : Walk) (n : ℕ) (ts : Tokens) → Allows P → EachKnown P w.known → EachToken P ts
    → EachToken P (sized_from w n ts)
from_keeps P w n [] a k h = tt
from_keeps P w (suc n) (t ∷ ts) a k h =
    from_keeps P (past t.form ts w) n ts a (form_has P t.form ts w a h.1 k) h.1
from_keeps P w zero (t ∷ ts) a k h =
    each_append P (stands_for t (size_at w.known t ts).0)
    (sized_from (past t.form ts w) (left_out (size_at w.known t ts)) ts)
    (stands_has P t (size_at w.known t ts).0 h.0 (at_has P w.known t ts a k))
    (from_keeps P (past t.form ts w) (left_out (size_at w.known t ts)) ts a (form_has P t.form ts w a h.1 k) h.1)
