-- What holds of all tokens and of all that may be added holds of a unit whose static objects stand in front.
use Rattle.std.proofs.Common.{◌≡◌, ℕ, Bool, true, false, cond, List, [], ◌∷◌, ◌++◌, Option, Some, None, refl}
use Rattle.std.proofs.Common.{sym, subst}
use Rattle.std.specs.Prelude.{nat_eq, is_none}
use Rattle.c_tree.specs.declared.Form.{Form}
use Rattle.c_tree.specs.declared.Form.TheVariants as form
use Rattle.c_tree.specs.declared.Key.TheVariants as key
use Rattle.c_tree.specs.declared.Mark.TheVariants as mark
use Rattle.c_tree.specs.declared.Lexeme.{Lexeme}
use Rattle.c_lex.specs.Bytes.{Bytes}
use Rattle.c_lex.specs.Lexes.{Tokens}
use Rattle.c_library.specs.Calls.{is_mark}
use Rattle.c_library.specs.Places.{token}
use Rattle.c_library.proofs.Holds.{Fact, EachToken, Allows, each_append}
use Rattle.c_locals.specs.declared.names.Entry.{Entry}
use Rattle.c_locals.specs.declared.state.Mode.{Mode}
use Rattle.c_locals.specs.declared.state.Mode.TheVariants as mode
use Rattle.c_locals.specs.declared.state.State.{State}
use Rattle.c_locals.specs.Names.{found, name_for, object_name, form_for, renamed}
use Rattle.c_locals.specs.Statics.{hides}
use Rattle.c_locals.specs.States.{beginning, to_item, to_front, refused, declaring, ended, hidden}
use Rattle.c_locals.specs.Stages.{ends, declares}
use Rattle.c_locals.specs.Statics.{local_by, local_past, kept, object, is_function, checked, static_by, static_past}
use Rattle.c_locals.specs.Statics.{begins_static, begins_local, code_past, part_past, bracketed, past}
use Rattle.c_locals.specs.States.{flushed}
use Rattle.c_locals.specs.Stages.{ends_item}
use Rattle.c_locals.specs.Statics.{run, with_statics}

-- it holds of all that is read
record EachRead (P : Fact) (s : State) : Type 0 where
  out : EachToken P s.out
  front : EachToken P s.front
  item : EachToken P s.item

item_keeps : (P : Fact) (ts : Tokens) (s : State) → EachRead P s → EachToken P ts → EachRead P (to_item ts s)
item_keeps P ts s h k = record { out = h.out; front = h.front; item = each_append P s.item ts h.item k }

front_keeps : (P : Fact) (ts : Tokens) (s : State) → EachRead P s → EachToken P ts → EachRead P (to_front ts s)
front_keeps P ts s h k = record { out = h.out; front = each_append P s.front ts h.front k; item = h.item }

refused_keeps : (P : Fact) (at : ℕ) (s : State) → Allows P → EachRead P s → EachRead P (refused at s)
refused_keeps P at s a h = item_keeps P (token at (form.Key key.Static) ∷ []) s h (a.key key.Static, tt)

form_keeps : (P : Fact) (es : List Entry) (f : Form) → Allows P → P f → P (form_for es f)
form_keeps P es (form.Name w) a h = a.name (name_for w (found w es))
form_keeps P es form.Include a h = h
form_keeps P es (form.Key k) a h = h
form_keeps P es (form.Number v k) a h = h
form_keeps P es (form.Mark m) a h = h

either : (P : Fact) (b : Bool) (x y : State) → EachRead P x → EachRead P y → EachRead P (cond b x y)
either P true x y h k = h
either P false x y h k = k

-- the same tokens
same : (P : Fact) (s s' : State) → s'.out ≡ s.out → s'.front ≡ s.front → s'.item ≡ s.item → EachRead P s
    → EachRead P s'
same P s s' o f i h = record {
  out = subst (λ (xs : Tokens). EachToken P xs) (sym o) h.out;
  front = subst (λ (xs : Tokens). EachToken P xs) (sym f) h.front;
  item = subst (λ (xs : Tokens). EachToken P xs) (sym i) h.item;
}

hides_keeps : (P : Fact) (w : Bytes) (t : Lexeme) (s : State) → Allows P → EachRead P s → P t.form
    → EachRead P (hides w t s)
hides_keeps P w t s a h k =
    item_keeps P (t ∷ [])
    (cond (is_none (found w s.names)) s (cond (nat_eq s.parens 0) (hidden w s) (refused t.offset s)))
    (either P (is_none (found w s.names)) s (cond (nat_eq s.parens 0) (hidden w s) (refused t.offset s)) h
    (either P (nat_eq s.parens 0) (hidden w s) (refused t.offset s) (same P s (hidden w s) refl refl refl h)
    (refused_keeps P t.offset s a h))) (k, tt)

local_by_keeps : (P : Fact) (t : Lexeme) (o : Option Bytes) (s : State) → Allows P → EachRead P s → P t.form
    → EachRead P (local_by t o s)
local_by_keeps P t None s a h k =
    same P (to_item (renamed s.names t ∷ []) s) (local_by t None s) refl refl refl
    (item_keeps P (renamed s.names t ∷ []) s h (form_keeps P s.names t.form a k, tt))
local_by_keeps P t (Some w) s a h k =
    same P (hides w t s) (local_by t (Some w) s) refl refl refl (hides_keeps P w t s a h k)

object_keeps : (P : Fact) (w : Bytes) (t : Lexeme) (s : State) → Allows P → EachRead P s → P t.form
    → EachRead P (object w t s)
object_keeps P w t s a h k =
    let fronted : EachRead P (to_front (token t.offset (form.Name (object_name w s.count)) ∷ []) s) =
    front_keeps P (token t.offset (form.Name (object_name w s.count)) ∷ []) s h
    (a.name (object_name w s.count), tt) in
    same P (to_item (kept t) (to_front (token t.offset (form.Name (object_name w s.count)) ∷ []) s)) (object w t s)
    refl refl refl
    (item_keeps P (kept t) (to_front (token t.offset (form.Name (object_name w s.count)) ∷ []) s) fronted
    (a.key key.Int, (k, (a.mark mark.Semicolon, tt))))

static_by_keeps : (P : Fact) (t : Lexeme) (o : Option Bytes) (s : State) → Allows P → EachRead P s → P t.form
    → EachRead P (static_by t o s)
static_by_keeps P t None s a h k =
    same P (to_front (t ∷ []) (checked t s)) (static_by t None s) refl refl refl
    (front_keeps P (t ∷ []) (checked t s)
    (either P (is_function s t.form) (refused t.offset s) s (refused_keeps P t.offset s a h) h) (k, tt))
static_by_keeps P t (Some w) s a h k =
    same P (object w t s) (static_by t (Some w) s) refl refl refl (object_keeps P w t s a h k)

part_keeps : (P : Fact) (m : Mode) (t : Lexeme) (s : State) → Allows P → EachRead P s → P t.form
    → EachRead P (part_past m t s)
part_keeps P mode.Code t s a h k =
    either P (begins_static s t.form) (declaring mode.Static s)
    (cond (begins_local s t.form) (declaring mode.Local (to_item (t ∷ []) s)) (to_item (renamed s.names t ∷ []) s))
    (same P s (declaring mode.Static s) refl refl refl h)
    (either P (begins_local s t.form) (declaring mode.Local (to_item (t ∷ []) s))
    (to_item (renamed s.names t ∷ []) s)
    (same P (to_item (t ∷ []) s) (declaring mode.Local (to_item (t ∷ []) s)) refl refl refl
    (item_keeps P (t ∷ []) s h (k, tt)))
    (item_keeps P (renamed s.names t ∷ []) s h (form_keeps P s.names t.form a k, tt)))
part_keeps P mode.Local t s a h k =
    either P (ends s.depth t.form) (ended (to_item (t ∷ []) s)) (local_by t (declares s.stage t.form) s)
    (same P (to_item (t ∷ []) s) (ended (to_item (t ∷ []) s)) refl refl refl
    (item_keeps P (t ∷ []) s h (k, tt))) (local_by_keeps P t (declares s.stage t.form) s a h k)
part_keeps P mode.Static t s a h k =
    either P (is_mark mark.Semicolon t.form) (ended (to_front (t ∷ []) s))
    (cond (ends s.depth t.form) (ended (to_item (t ∷ []) (refused t.offset s)))
    (static_by t (declares s.stage t.form) s))
    (same P (to_front (t ∷ []) s) (ended (to_front (t ∷ []) s)) refl refl refl
    (front_keeps P (t ∷ []) s h (k, tt)))
    (either P (ends s.depth t.form) (ended (to_item (t ∷ []) (refused t.offset s)))
    (static_by t (declares s.stage t.form) s)
    (same P (to_item (t ∷ []) (refused t.offset s)) (ended (to_item (t ∷ []) (refused t.offset s))) refl refl refl
    (item_keeps P (t ∷ []) (refused t.offset s) (refused_keeps P t.offset s a h) (k, tt)))
    (static_by_keeps P t (declares s.stage t.form) s a h k))

flushed_keeps : (P : Fact) (s : State) → EachRead P s → EachRead P (flushed s)
flushed_keeps P s h = record {
  out = each_append P s.out (s.front ++ s.item) h.out (each_append P s.front s.item h.front h.item);
  front = tt;
  item = tt;
}

past_keeps : (P : Fact) (t : Lexeme) (s : State) → Allows P → EachRead P s → P t.form → EachRead P (past t s)
past_keeps P t s a h k =
    let part : EachRead P (part_past s.mode t s) = part_keeps P s.mode t s a h k in
    let behind : EachRead P (bracketed t.form (part_past s.mode t s)) =
    same P (part_past s.mode t s) (bracketed t.form (part_past s.mode t s)) refl refl refl part in
    either P (ends_item (bracketed t.form (part_past s.mode t s)).blocks t.form)
    (flushed (bracketed t.form (part_past s.mode t s))) (bracketed t.form (part_past s.mode t s))
    (flushed_keeps P (bracketed t.form (part_past s.mode t s)) behind) behind

run_keeps : (P : Fact) (s : State) (ts : Tokens) → Allows P → EachRead P s → EachToken P ts → EachToken P (run s ts)
run_keeps P s [] a h k =
    each_append P s.out (s.front ++ s.item) h.out (each_append P s.front s.item h.front h.item)
run_keeps P s (t ∷ ts) a h k = run_keeps P (past t s) ts a (past_keeps P t s a h k.0) k.1

-- it holds of each token that comes out
pub statics_keep : (P : Fact) (ts : Tokens) → Allows P → EachToken P ts → EachToken P (with_statics ts)
statics_keep P ts a h = run_keeps P beginning ts a (record { out = tt; front = tt; item = tt }) h
