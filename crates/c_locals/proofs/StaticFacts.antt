-- A unit without `static` is its own, where static objects go in front of functions.
use Rattle.std.proofs.Common.{◌≡◌, ℕ, Bool, true, false, cond, List, [], ◌∷◌, ◌++◌, Option, Some, None, refl, sym, ap}
use Rattle.std.proofs.Common.{◌∙◌, append_assoc}
use Rattle.std.specs.Prelude.{not, ◌&&◌, nat_eq, is_none}
use Rattle.c_tree.specs.declared.Form.{Form}
use Rattle.c_tree.specs.declared.Form.TheVariants as form
use Rattle.c_tree.specs.declared.Mark.TheVariants as mark
use Rattle.c_tree.specs.declared.Lexeme.{Lexeme}
use Rattle.c_lex.specs.Bytes.{Bytes}
use Rattle.c_lex.specs.Lexes.{Tokens}
use Rattle.c_library.specs.Calls.{is_mark}
use Rattle.c_locals.specs.declared.names.Entry.{Entry}
use Rattle.c_locals.specs.declared.state.Mode.{Mode}
use Rattle.c_locals.specs.declared.state.Mode.TheVariants as mode
use Rattle.c_locals.specs.declared.state.State.{State}
use Rattle.c_locals.specs.Names.{found, form_for, renamed, around}
use Rattle.c_locals.specs.States.{beginning, to_item, refused, declaring, ended, going_on, named}
use Rattle.c_locals.specs.Stages.{ends, declares}
use Rattle.c_locals.specs.Statics.{hides, local_by, local_past, begins_static, begins_local}
use Rattle.c_locals.specs.States.{hidden}
use Rattle.c_locals.specs.Stages.{is_static}
use Rattle.c_locals.specs.Statics.{code_past, part_past, bracketed, flushed_if, past, run}
use Rattle.c_locals.specs.States.{flushed}
use Rattle.c_locals.specs.Stages.{ends_item}
use Rattle.c_locals.specs.Statics.{with_statics}

-- is no static declaration read?
abbrev is_quiet : Mode → Bool
is_quiet mode.Static = false
is_quiet _ = true

-- nothing stands in front of the item, no name stands for an object, and no static declaration is read
record Quiet (s : State) : Type 0 where
  front : s.front ≡ []
  names : s.names ≡ []
  mode : is_quiet s.mode ≡ true

-- and a token was put behind the item
record Goes (s s' : State) (t : Lexeme) : Type 0 where
  quiet : Quiet s'
  out : s'.out ≡ s.out
  item : s'.item ≡ s.item ++ t ∷ []

no_form : (f : Form) → form_for [] f ≡ f
no_form (form.Name w) = refl
no_form _ = refl

-- without objects a token stays
no_name : (es : List Entry) (t : Lexeme) → es ≡ [] → renamed es t ≡ t
no_name es t e =
    ap (λ (xs : List Entry). renamed xs t) e
    ∙ ap (λ (f : Form). record { offset = t.offset; form = f }) (no_form t.form)

put_goes : (s : State) (t u : Lexeme) → Quiet s → u ≡ t → Goes s (to_item (u ∷ []) s) t
put_goes s t u q e = record {
  quiet = record { front = q.front; names = q.names; mode = q.mode };
  out = refl;
  item = ap (λ (x : Lexeme). s.item ++ x ∷ []) e;
}

-- what a declaration is read as changes nothing else
local_goes : (s s' : State) (t : Lexeme) → Goes s s' t → Goes s (declaring mode.Local s') t
local_goes s s' t g = record {
  quiet = record { front = g.quiet.front; names = g.quiet.names; mode = refl };
  out = g.out;
  item = g.item;
}

ended_goes : (s s' : State) (t : Lexeme) → Goes s s' t → Goes s (ended s') t
ended_goes s s' t g = record {
  quiet = record { front = g.quiet.front; names = g.quiet.names; mode = refl };
  out = g.out;
  item = g.item;
}

on_goes : (s s' : State) (t : Lexeme) (f : Form) → Goes s s' t → Goes s (going_on f s') t
on_goes s s' t f g = record {
  quiet = record { front = g.quiet.front; names = g.quiet.names; mode = g.quiet.mode };
  out = g.out;
  item = g.item;
}

named_goes : (s s' : State) (t : Lexeme) → Goes s s' t → Goes s (named s') t
named_goes s s' t g = record {
  quiet = record { front = g.quiet.front; names = g.quiet.names; mode = g.quiet.mode };
  out = g.out;
  item = g.item;
}

-- one of two ways
either : (s x y : State) (t : Lexeme) (b : Bool) → Goes s x t → Goes s y t → Goes s (cond b x y) t
either s x y t true g h = g
either s x y t false g h = h

not_first : (s x y : State) (t : Lexeme) (b : Bool) → b ≡ false → Goes s y t → Goes s (cond b x y) t
not_first s x y t true e h = absurd (cc)
not_first s x y t false e h = h

not_found : (w : Bytes) (es : List Entry) → es ≡ [] → is_none (found w es) ≡ true
not_found w es e = ap (λ (xs : List Entry). is_none (found w xs)) e

hides_by : (s : State) (w : Bytes) (t : Lexeme) (b : Bool) → Quiet s → b ≡ true
    → Goes s (to_item (t ∷ []) (cond b s (cond (nat_eq s.parens 0) (hidden w s) (refused t.offset s)))) t
hides_by s w t true q e = put_goes s t t q refl
hides_by s w t false q e = absurd (cc)

hides_goes : (s : State) (w : Bytes) (t : Lexeme) → Quiet s → Goes s (hides w t s) t
hides_goes s w t q = hides_by s w t (is_none (found w s.names)) q (not_found w s.names q.names)

local_by_goes : (s : State) (t : Lexeme) (o : Option Bytes) → Quiet s → Goes s (local_by t o s) t
local_by_goes s t None q =
    on_goes s (to_item (renamed s.names t ∷ []) s) t t.form
    (put_goes s t (renamed s.names t) q (no_name s.names t q.names))
local_by_goes s t (Some w) q = named_goes s (hides w t s) t (hides_goes s w t q)

both_not : (a b c : Bool) → c ≡ false → (a && (b && c)) ≡ false
both_not true true c e = e
both_not true false c e = refl
both_not false b c e = refl

part_goes : (s : State) (m : Mode) (t : Lexeme) → Quiet s → is_quiet m ≡ true → is_static t.form ≡ false
    → Goes s (part_past m t s) t
part_goes s mode.Code t q m e =
    not_first s (declaring mode.Static s)
    (cond (begins_local s t.form) (declaring mode.Local (to_item (t ∷ []) s)) (to_item (renamed s.names t ∷ []) s)) t
    (begins_static s t.form)
    (both_not (not (nat_eq s.blocks 0)) (nat_eq s.parens 0) (is_static t.form) e)
    (either s (declaring mode.Local (to_item (t ∷ []) s)) (to_item (renamed s.names t ∷ []) s) t
    (begins_local s t.form) (local_goes s (to_item (t ∷ []) s) t (put_goes s t t q refl))
    (put_goes s t (renamed s.names t) q (no_name s.names t q.names)))
part_goes s mode.Local t q m e =
    either s (ended (to_item (t ∷ []) s)) (local_by t (declares s.stage t.form) s) t (ends s.depth t.form)
    (ended_goes s (to_item (t ∷ []) s) t (put_goes s t t q refl)) (local_by_goes s t (declares s.stage t.form) q)
part_goes s mode.Static t q m e = absurd (cc)

no_around : (b : Bool) (n : ℕ) (es : List Entry) → es ≡ [] → cond b (around n es) es ≡ []
no_around true n es e = ap (around n) e
no_around false n es e = e

bracketed_goes : (s s' : State) (t : Lexeme) (f : Form) → Goes s s' t → Goes s (bracketed f s') t
bracketed_goes s s' t f g = record {
  quiet = record {
    front = g.quiet.front;
    names = no_around (is_mark mark.RightBrace f) s'.blocks s'.names g.quiet.names;
    mode = g.quiet.mode;
  };
  out = g.out;
  item = g.item;
}

-- all that is read
abbrev told : State → Tokens
told s = s.out ++ s.item

-- a token more was read
record Reads (s s' : State) (t : Lexeme) : Type 0 where
  quiet : Quiet s'
  all : told s' ≡ told s ++ t ∷ []

goes_reads : (s s' : State) (t : Lexeme) → Goes s s' t → Reads s s' t
goes_reads s s' t g = record {
  quiet = g.quiet;
  all = ap (λ (xs : Tokens). xs ++ s'.item) g.out
      ∙ ap (λ (xs : Tokens). s.out ++ xs) g.item
      ∙ sym (append_assoc s.out s.item (t ∷ []));
}

nothing_behind : (xs : Tokens) → xs ++ [] ≡ xs
nothing_behind [] = refl
nothing_behind (x ∷ xs) = ap (λ (ys : Tokens). x ∷ ys) (nothing_behind xs)

flush_reads : (s s' : State) (t : Lexeme) → Goes s s' t → Reads s (flushed s') t
flush_reads s s' t g = record {
  quiet = record { front = refl; names = g.quiet.names; mode = g.quiet.mode };
  all = nothing_behind (s'.out ++ (s'.front ++ s'.item))
      ∙ ap (λ (xs : Tokens). s'.out ++ (xs ++ s'.item)) g.quiet.front
      ∙ (goes_reads s s' t g).all;
}

by_end : (s s' : State) (t : Lexeme) (b : Bool) → Goes s s' t → Reads s (cond b (flushed s') s') t
by_end s s' t true g = flush_reads s s' t g
by_end s s' t false g = goes_reads s s' t g

reads : (s : State) (t : Lexeme) → Quiet s → is_static t.form ≡ false → Reads s (past t s) t
reads s t q e =
    by_end s (bracketed t.form (part_past s.mode t s)) t
    (ends_item (bracketed t.form (part_past s.mode t s)).blocks t.form)
    (bracketed_goes s (part_past s.mode t s) t t.form (part_goes s s.mode t q q.mode e))

-- is none of the tokens `static`?
abbrev pub AllPlain : Tokens → Type 0
AllPlain [] = Unit {0}
AllPlain (t ∷ ts) = (is_static t.form ≡ false) × AllPlain ts

stay_from : (s : State) (ts : Tokens) → Quiet s → AllPlain ts → run s ts ≡ told s ++ ts
stay_from s [] q h =
    ap (λ (xs : Tokens). s.out ++ (xs ++ s.item)) q.front ∙ sym (nothing_behind (told s))
stay_from s (t ∷ ts) q h =
    let r : Reads s (past t s) t = reads s t q h.0 in
    stay_from (past t s) ts r.quiet h.1
    ∙ ap (λ (xs : Tokens). xs ++ ts) r.all
    ∙ append_assoc (told s) (t ∷ []) ts

-- a unit without `static` is its own
pub statics_stay : (ts : Tokens) → AllPlain ts → with_statics ts ≡ ts
statics_stay ts h = stay_from beginning ts (record { front = refl; names = refl; mode = refl }) h
