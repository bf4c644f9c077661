-- What holds of all tokens and of all that may be added holds of a unit whose prototypes stand outside of blocks.
use Rattle.std.proofs.Common.{◌≡◌, ℕ, zero, suc, Bool, true, false, cond, [], ◌∷◌, ◌++◌, Option, Some, None}
use Rattle.std.specs.Prelude.{◌-◌, ◌&&◌, length}
use Rattle.c_tree.specs.declared.Form.{Form}
use Rattle.c_tree.specs.declared.Key.TheVariants as key
use Rattle.c_tree.specs.declared.Mark.TheVariants as mark
use Rattle.c_tree.specs.declared.Lexeme.{Lexeme}
use Rattle.c_lex.specs.Lexes.{Tokens}
use Rattle.c_library.specs.Calls.{is_mark}
use Rattle.c_library.proofs.Holds.{Fact, EachToken, Allows, each_append}
use Rattle.c_locals.specs.Brackets.{Parts, split}
use Rattle.c_locals.specs.Elements.{marked}
use Rattle.c_locals.specs.Values.{is_name}
use Rattle.c_locals.proofs.KeptElements.{EachPart, parts_keep, marked_keeps}
use Rattle.c_words.specs.Keys.{is_key}
use Rattle.c_units.specs.declared.raised.Raise.{Raise}
use Rattle.c_units.specs.Cuts.{ends}
use Rattle.c_units.specs.Externs.{are_objects, external_by, external}
use Rattle.c_units.specs.Objects.{is_extern, words_from, behind_words}
use Rattle.c_units.specs.Raised.{closed_by, named_by, valued_by, valued, prototype, beginning, begins, to_item}
use Rattle.c_units.specs.Raised.{raised_by}
use Rattle.c_units.specs.Raised.{found_by, extern_by, started, taken, counted, flushed, step, run, raised}
use Rattle.c_units.proofs.KeptObjects.{EachOf, if_there, words_keep, behind_keep}

-- A PROTOTYPE

closed_keeps : (P : Fact) (head : Tokens) (at : ℕ) (o : Option Parts) → Allows P → EachToken P head → EachPart P o
    → EachOf P (closed_by head at o)
closed_keeps P head at None a h k = tt
closed_keeps P head at (Some (ps, [])) a h k = tt
closed_keeps P head at (Some (ps, t ∷ ts)) a h k =
    if_there P (is_mark mark.Semicolon t.form) (Some (head ++ (ps ++ marked at mark.RightParen)))
    (each_append P head (ps ++ marked at mark.RightParen) h
    (each_append P ps (marked at mark.RightParen) k.0 (marked_keeps P at mark.RightParen a)))

named_keeps : (P : Fact) (ws ts : Tokens) → Allows P → EachToken P ws → EachToken P ts → EachOf P (named_by ws ts)
named_keeps P ws [] a h k = tt
named_keeps P ws (n ∷ []) a h k = tt
named_keeps P ws (n ∷ o ∷ ts) a h k =
    if_there P (is_name n.form && is_mark mark.LeftParen o.form)
    (closed_by (ws ++ n ∷ o ∷ []) n.offset (split mark.RightParen ts))
    (closed_keeps P (ws ++ n ∷ o ∷ []) n.offset (split mark.RightParen ts) a
    (each_append P ws (n ∷ o ∷ []) h (k.0, (k.1.0, tt))) (parts_keep P mark.RightParen ts k.1.1))

valued_by_keeps : (P : Fact) (ws ts : Tokens) → Allows P → EachToken P ws → EachToken P ts → EachOf P (valued_by ws ts)
valued_by_keeps P [] ts a h k = tt
valued_by_keeps P (w ∷ ws) ts a h k = named_keeps P (w ∷ ws) ts a h k

by_void : (P : Fact) (b : Bool) (x y : Option Tokens) → EachOf P x → EachOf P y → EachOf P (cond b x y)
by_void P true x y h k = h
by_void P false x y h k = k

prototype_keeps : (P : Fact) (ts : Tokens) → Allows P → EachToken P ts → EachOf P (prototype ts)
prototype_keeps P [] a h = tt
prototype_keeps P (t ∷ ts) a h =
    by_void P (is_key key.Void t.form) (named_by (t ∷ []) ts) (valued (t ∷ ts))
    (named_keeps P (t ∷ []) ts a (h.0, tt) h.1)
    (valued_by_keeps P (words_from false [] (t ∷ ts)) (behind_words false (t ∷ ts)) a
    (words_keep P false [] (t ∷ ts) tt h) (behind_keep P false (t ∷ ts) h))

-- EXTERN

external_by_keeps : (P : Fact) (t : Lexeme) (before : Tokens) (o : Option Parts) → P t.form → EachPart P o
    → EachOf P (external_by t before o)
external_by_keeps P t before None h k = tt
external_by_keeps P t before (Some (a, b)) h k = if_there P (are_objects before a) (Some (t ∷ a)) (h, k.0)

external_keeps : (P : Fact) (t : Lexeme) (before ts : Tokens) → EachToken P (t ∷ ts)
    → EachOf P (external t before ts)
external_keeps P t before ts h =
    external_by_keeps P t before (split mark.Semicolon ts) h.0 (parts_keep P mark.Semicolon ts h.1)

-- THE UNIT

-- it holds of all that is read
record EachRead (P : Fact) (s : Raise) : Type 0 where
  out : EachToken P s.out
  front : EachToken P s.front
  item : EachToken P s.item

either_read : (P : Fact) (b : Bool) (x y : Raise) → EachRead P x → EachRead P y → EachRead P (cond b x y)
either_read P true x y h k = h
either_read P false x y h k = k

item_keeps : (P : Fact) (t : Lexeme) (s : Raise) → EachRead P s → P t.form → EachRead P (to_item t s)
item_keeps P t s h k =
    record { out = h.out; front = h.front; item = each_append P s.item (t ∷ []) h.item (k, tt) }

raised_by_keeps : (P : Fact) (at n : ℕ) (ts : Tokens) (s : Raise) → Allows P → EachRead P s → EachToken P ts
    → EachRead P (raised_by at n ts s)
raised_by_keeps P at n ts s a h k =
    record {
      out = h.out;
      front = each_append P s.front (ts ++ marked at mark.Semicolon) h.front
          (each_append P ts (marked at mark.Semicolon) k (marked_keeps P at mark.Semicolon a));
      item = h.item;
    }

found_keeps : (P : Fact) (t : Lexeme) (e : Bool) (o : Option Tokens) (s : Raise) → Allows P → EachRead P s
    → P t.form → EachOf P o → EachRead P (found_by t e o s)
found_keeps P t e None s a h k m = item_keeps P t s h k
found_keeps P t e (Some ts) s a h k m =
    raised_by_keeps P t.offset (cond e (length ts) (length ts - 1)) ts s a h m

extern_keeps : (P : Fact) (t : Lexeme) (ts : Tokens) (o : Option Tokens) (s : Raise) → Allows P → EachRead P s
    → EachToken P (t ∷ ts) → EachOf P o → EachRead P (extern_by t ts o s)
extern_keeps P t ts (Some ps) s a h k m = found_keeps P t true (Some ps) s a h k.0 m
extern_keeps P t ts None s a h k m =
    found_keeps P t false (external t s.item ts) s a h k.0 (external_keeps P t s.item ts k)

started_keeps : (P : Fact) (t : Lexeme) (ts : Tokens) (s : Raise) → Allows P → EachRead P s → EachToken P (t ∷ ts)
    → EachRead P (started t ts s)
started_keeps P t ts s a h k =
    either_read P (is_extern t.form) (extern_by t ts (prototype ts) s) (found_by t false (prototype (t ∷ ts)) s)
    (extern_keeps P t ts (prototype ts) s a h k (prototype_keeps P ts a k.1))
    (found_keeps P t false (prototype (t ∷ ts)) s a h k.0 (prototype_keeps P (t ∷ ts) a k))

taken_keeps : (P : Fact) (n : ℕ) (t : Lexeme) (ts : Tokens) (s : Raise) → Allows P → EachRead P s
    → EachToken P (t ∷ ts) → EachRead P (taken n t ts s)
taken_keeps P (suc n) t ts s a h k = record { out = h.out; front = h.front; item = h.item }
taken_keeps P zero t ts s a h k =
    either_read P (begins s) (started t ts s) (to_item t s) (started_keeps P t ts s a h k) (item_keeps P t s h k.0)

counted_keeps : (P : Fact) (f : Form) (s : Raise) → EachRead P s → EachRead P (counted f s)
counted_keeps P f s h = record { out = h.out; front = h.front; item = h.item }

flushed_keeps : (P : Fact) (s : Raise) → EachRead P s → EachRead P (flushed s)
flushed_keeps P s h =
    record {
      out = each_append P s.out (s.front ++ s.item) h.out (each_append P s.front s.item h.front h.item);
      front = tt;
      item = tt;
    }

step_keeps : (P : Fact) (t : Lexeme) (ts : Tokens) (s : Raise) → Allows P → EachRead P s → EachToken P (t ∷ ts)
    → EachRead P (step t ts s)
step_keeps P t ts s a h k =
    let s' : Raise = counted t.form (taken s.skip t ts s) in
    let r : EachRead P s' = counted_keeps P t.form (taken s.skip t ts s) (taken_keeps P s.skip t ts s a h k) in
    either_read P (ends t.form s'.place) (flushed s') s' (flushed_keeps P s' r) r

run_keeps : (P : Fact) (s : Raise) (ts : Tokens) → Allows P → EachRead P s → EachToken P ts → EachToken P (run s ts)
run_keeps P s [] a h k =
    each_append P s.out (s.front ++ s.item) h.out (each_append P s.front s.item h.front h.item)
run_keeps P s (t ∷ ts) a h k = run_keeps P (step t ts s) ts a (step_keeps P t ts s a h k) k.1

-- the unit whose prototypes stand outside of blocks
pub raised_keeps : (P : Fact) (ts : Tokens) → Allows P → EachToken P ts → EachToken P (raised ts)
raised_keeps P ts a h = run_keeps P beginning ts a (record { out = tt; front = tt; item = tt }) h
