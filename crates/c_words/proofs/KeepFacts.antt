-- What holds of each token of a unit, and of all that may be added, holds of each token that comes out.
use Rattle.std.proofs.Common.{ℕ, Bool, true, false, cond, ◌&&◌, List, [], ◌∷◌, map, Option, Some, None}
use Rattle.c_tree.specs.declared.Key.{Key}
use Rattle.c_tree.specs.declared.Key.TheVariants as key
use Rattle.c_tree.specs.declared.Lexeme.{Lexeme}
use Rattle.c_tree.specs.declared.Mark.TheVariants as mark
use Rattle.c_lex.specs.Lexes.{Tokens}
use Rattle.c_library.proofs.Holds.{Fact, EachToken, Allows, each_append}
use Rattle.c_words.specs.declared.guard.Guard.{Guard}
use Rattle.c_words.specs.declared.part.Part.{Part}
use Rattle.c_words.specs.declared.part.Part.TheVariants as part
use Rattle.c_words.specs.declared.stand.Stand.{Stand}
use Rattle.c_words.specs.declared.stand.Stand.TheVariants as stand
use Rattle.c_words.specs.Guards as g
use Rattle.c_words.specs.Ordered as o
use Rattle.c_words.specs.Places.{Places, past}
use Rattle.c_words.specs.Pointers as p

each_key : (P : Fact) (at : ℕ) (ks : List Key) → Allows P → EachToken P (map (o.key_at at) ks)
each_key P at [] a = tt
each_key P at (k ∷ ks) a = (a.key k, each_key P at ks a)

stand_keeps : (P : Fact) (s : Stand) (t : Lexeme) → Allows P → P t.form → EachToken P (o.stands_for s t)
stand_keeps P stand.Apart t a h = (h, tt)
stand_keeps P stand.Kept t a h = (h, tt)
stand_keeps P (stand.Spelled x) t a h = each_key P t.offset (o.keys x) a
stand_keeps P stand.Gone t a h = tt

ordered_keeps : (P : Fact) (s : Stand) (ps : Places) (ts : Tokens) → Allows P → EachToken P ts
    → EachToken P (o.ordered_from s ps ts)
ordered_keeps P s ps [] a h = tt
ordered_keeps P s ps (t ∷ ts) a h =
    each_append P (o.stands_for (o.stand_of s ps t ts) t)
    (o.ordered_from (o.stand_of s ps t ts) (past t.form ps) ts)
    (stand_keeps P (o.stand_of s ps t ts) t a h.0)
    (ordered_keeps P (o.stand_of s ps t ts) (past t.form ps) ts a h.1)

-- it holds of the name, if there is one
abbrev MayHold : Fact → Option Tokens → Type 0
MayHold P None = Unit {0}
MayHold P (Some ns) = EachToken P ns

name_keeps : (P : Fact) (ts : Tokens) → EachToken P ts → MayHold P (p.name_at ts)
name_keeps P [] h = tt
name_keeps P (t ∷ ts) h = by (o.is_name t.form && p.ends ts) (p.ends (t ∷ ts))
  where
    by : (n e : Bool) → MayHold P (cond n (Some (t ∷ [])) (cond e (Some []) None))
    by true e = (h.0, tt)
    by false true = tt
    by false false = tt

pointed_keeps : (P : Fact) (ts : Tokens) → EachToken P ts → MayHold P (p.pointed ts)
pointed_keeps P [] h = tt
pointed_keeps P (t ∷ ts) h =
    by (p.is_qualifier t.form) (pointed_keeps P ts h.1) (name_keeps P (t ∷ ts) h)
  where
    by : (q : Bool) → MayHold P (p.pointed ts) → MayHold P (p.name_at (t ∷ ts))
        → MayHold P (cond q (p.pointed ts) (p.name_at (t ∷ ts)))
    by true k n = k
    by false k n = n

array_keeps : (P : Fact) (n : Option Tokens) (t : Lexeme) → Allows P → P t.form → MayHold P n
    → EachToken P (p.array_of n t)
array_keeps P None t a h k = (h, tt)
array_keeps P (Some ns) t a h k =
    each_append P ns (p.mark_at t.offset mark.LeftBracket ∷ p.mark_at t.offset mark.RightBracket ∷ []) k
    (a.mark mark.LeftBracket, (a.mark mark.RightBracket, tt))

part_keeps : (P : Fact) (q : Part) (t : Lexeme) (ts : Tokens) → Allows P → P t.form → EachToken P ts
    → EachToken P (p.stands_for q t ts)
part_keeps P part.Apart t ts a h k = (h, tt)
part_keeps P part.Word t ts a h k = (h, tt)
part_keeps P part.Star t ts a h k = array_keeps P (p.pointed ts) t a h (pointed_keeps P ts k)
part_keeps P part.Within t ts a h k = tt
part_keeps P part.Name t ts a h k = tt

pointers_keep : (P : Fact) (q : Part) (ps : Places) (ts : Tokens) → Allows P → EachToken P ts
    → EachToken P (p.pointed_from q ps ts)
pointers_keep P q ps [] a h = tt
pointers_keep P q ps (t ∷ ts) a h =
    each_append P (p.stands_for (p.part_of q ps t ts) t ts)
    (p.pointed_from (p.part_of q ps t ts) (past t.form ps) ts)
    (part_keeps P (p.part_of q ps t ts) t ts a h.0 h.1)
    (pointers_keep P (p.part_of q ps t ts) (past t.form ps) ts a h.1)

pub ordered_keep : (P : Fact) (ts : Tokens) → Allows P → EachToken P ts → EachToken P (o.ordered ts)
ordered_keep P ts a h = ordered_keeps P stand.Apart [] ts a h

pub without_keep : (P : Fact) (ts : Tokens) → Allows P → EachToken P ts → EachToken P (p.without_pointers ts)
without_keep P ts a h = pointers_keep P part.Apart [] ts a h

-- GUARDS

set_keeps : (P : Fact) (b : Bool) (t : Lexeme) → Allows P → P t.form → EachToken P (g.stands_for b t)
set_keeps P true t a h = (a.key key.Const, (h, tt))
set_keeps P false t a h = (h, tt)

guards_keep : (P : Fact) (s : Guard) (ts : Tokens) → Allows P → EachToken P ts → EachToken P (g.guarded_from s ts)
guards_keep P s [] a h = tt
guards_keep P s (t ∷ ts) a h =
    each_append P (g.stands_for (g.sets s t.form) t) (g.guarded_from (g.past t.form ts s) ts)
    (set_keeps P (g.sets s t.form) t a h.0) (guards_keep P (g.past t.form ts s) ts a h.1)

pub guarded_keep : (P : Fact) (ts : Tokens) → Allows P → EachToken P ts → EachToken P (g.guarded ts)
guarded_keep P ts a h = by (g.has_const ts)
  where
    by : (b : Bool) → EachToken P (cond b (g.guarded_from g.start ts) ts)
    by true = guards_keep P g.start ts a h
    by false = h
