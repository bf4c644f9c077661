-- A unit in which no name of the library stands in front of a `(` calls no function of it.
use Rattle.std.proofs.Common.{◌≡◌, ◌≢◌, ℕ, Bool, true, false, cond, not, ◌&&◌, ◌||◌, List, [], ◌∷◌, refl, ap, sym}
use Rattle.std.proofs.Common.{◌∙◌, subst}
use Rattle.std.specs.Prelude.{is_none, Option, Some, None}
use Rattle.std.specs.Str.{bytes_eq}
use Rattle.std.proofs.lemmas.Bool.{false≢true}
use Rattle.std.proofs.lemmas.Slice.Eq.{bytes_eq-Decides}
use Rattle.c_tree.specs.declared.Form.{Form}
use Rattle.c_tree.specs.declared.Form.TheVariants as form
use Rattle.c_tree.specs.declared.Lexeme.{Lexeme}
use Rattle.c_tree.specs.declared.Mark.TheVariants as mark
use Rattle.c_lex.specs.Bytes.{Bytes}
use Rattle.c_lex.specs.Lexes.{Tokens}
use Rattle.c_lex.specs.Strings.{string_of}
use Rattle.c_lex.specs.Tables.{lookup}
use Rattle.c_library.specs.declared.header.Header.{Header}
use Rattle.c_library.specs.declared.header.Header.TheVariants as header
use Rattle.c_library.specs.declared.walk.Walk.{Walk}
use Rattle.c_library.specs.Calls.{Call, is_name, opens, calls, is_header, behind, owns, printf, literal_behind}
use Rattle.c_library.specs.Calls.{format_at, literal_at, is_mark}
use Rattle.c_library.specs.Definitions.{Row, is_called}
use Rattle.c_library.specs.Headers.{header_of, bracketed, same_header}
use Rattle.c_library.specs.Table.{table}
use Rattle.c_library.specs.Uncalled.{stays, all_stay, none_called, calls_none}
use Rattle.c_library.specs.Walks.{start, call, seen_past, past}
use Rattle.c_library.specs.inside.Mentions.{may_name, is_row, is_library, is_other, seen_behind, all_other}

and_left : (a b : Bool) → (a && b) ≡ true → a ≡ true
and_left true b e = refl
and_left false b e = absurd (cc)

and_right : (a b : Bool) → (a && b) ≡ true → b ≡ true
and_right true b e = e
and_right false b e = absurd (cc)

both_true : (a b : Bool) → a ≡ true → b ≡ true → (a && b) ≡ true
both_true true b e f = f
both_true false b e f = absurd (false≢true e)

true_or_false : (b : Bool) → (b ≢ true) → b ≡ false
true_or_false true h = absurd (h refl)
true_or_false false h = refl

-- NAMES

abbrev all_may : List Row → Bool
all_may [] = true
all_may (r ∷ rs) = may_name r.0 && all_may rs

table_may : all_may table ≡ true
unfolding table
table_may = refl

-- one that may not be is another than one that may
apart : (w n : Bytes) → may_name w ≡ false → may_name n ≡ true → bytes_eq w n ≡ false
apart w n e f =
    true_or_false (bytes_eq w n) (λ s.
    let same : w ≡ n = (bytes_eq-Decides w n).0 s in
    false≢true (sym e ∙ ap may_name same ∙ f))

no_row : (w : Bytes) (rs : List Row) → may_name w ≡ false → all_may rs ≡ true → is_row w rs ≡ false
no_row w [] e f = refl
no_row w (r ∷ rs) e f =
    ap (λ (x : Bool). x || is_row w rs) (apart w r.0 e (and_left (may_name r.0) (all_may rs) f))
    ∙ no_row w rs e (and_right (may_name r.0) (all_may rs) f)

-- a name that begins otherwise is none of the library's
pub begins_otherwise : (w : Bytes) → may_name w ≡ false → is_library w ≡ false
begins_otherwise w e =
    ap (λ (x : Bool). x || is_row w table) (apart w printf e refl) ∙ no_row w table e table_may

-- CALLS

none_left : (b : Bool) → not (b && true) ≡ true → b ≡ false
none_left true e = absurd (false≢true e)
none_left false e = refl

-- a name that opens a call is none of the library's
closed : (seen o l : Bool) → not (seen && (o && l)) ≡ true → seen ≡ true → l ≡ true → o ≡ false
closed true true true e s k = absurd (false≢true e)
closed true false l e s k = refl
closed true true false e s k = absurd (false≢true k)
closed false o l e s k = absurd (false≢true s)

-- the name is one of the library's
abbrev Library : Bytes → Type 0
Library w = is_library w ≡ true

named_by : (w v : Bytes) (o b : Bool) → bytes_eq v w ≡ b → (v ≡ w → o ≡ false) → (b && o) ≡ false
named_by w v o true e h = h ((bytes_eq-Decides v w).0 e)
named_by w v true false e h = refl
named_by w v false false e h = refl

no_more : (o : Bool) → (false && o) ≡ false
no_more true = refl
no_more false = refl

-- a name of the library is not called where tokens are nothing of it
not_called : (w : Bytes) (f : Form) (ts : Tokens) → Library w → is_other true f ts ≡ true
    → (is_name w f && opens ts) ≡ false
not_called w (form.Name v) ts l n =
    named_by w v (opens ts) (bytes_eq v w) refl (λ e.
    closed true (opens ts) (is_library v)
    (and_right (is_none (lookup v bracketed)) (not (true && (opens ts && is_library v))) n) refl
    (subst (λ (x : Bytes). is_library x ≡ true) (sym e) l))
not_called w form.Include ts l n = no_more (opens ts)
not_called w (form.Key k) ts l n = no_more (opens ts)
not_called w (form.Number x k) ts l n = no_more (opens ts)
not_called w (form.Mark m) ts l n = no_more (opens ts)

seen_stays : (f : Form) → seen_behind true f ≡ true
seen_stays form.Include = refl
seen_stays (form.Name w) = refl
seen_stays (form.Key k) = refl
seen_stays (form.Number x k) = refl
seen_stays (form.Mark m) = refl

first_other : (s : Bool) (t : Lexeme) (ts : Tokens) → all_other s (t ∷ ts) ≡ true → is_other s t.form ts ≡ true
first_other s t ts n = and_left (is_other s t.form ts) (all_other (seen_behind s t.form) ts) n

others : (s : Bool) (t : Lexeme) (ts : Tokens) → all_other s (t ∷ ts) ≡ true
    → all_other (seen_behind s t.form) ts ≡ true
others s t ts n = and_right (is_other s t.form ts) (all_other (seen_behind s t.form) ts) n

others_seen : (t : Lexeme) (ts : Tokens) → all_other true (t ∷ ts) ≡ true → all_other true ts ≡ true
others_seen t ts n = subst (λ (b : Bool). all_other b ts ≡ true) (seen_stays t.form) (others true t ts n)

none_calls : (w : Bytes) (ts : Tokens) → Library w → all_other true ts ≡ true → calls w ts ≡ false
none_calls w [] l n = refl
none_calls w (t ∷ ts) l n =
    ap (λ (x : Bool). x || calls w ts) (not_called w t.form ts l (first_other true t ts n))
    ∙ none_calls w ts l (others_seen t ts n)

bracket_none : (w : Bytes) (o : Option Header) (h : Header) (x : Bool) → lookup w bracketed ≡ o
    → (is_none (lookup w bracketed) && x) ≡ true → is_header h (lookup w bracketed) ≡ true → ⊥
bracket_none w None h x e n i = false≢true (sym (ap (is_header h) e) ∙ i)
bracket_none w (Some g) h x e n i = false≢true (sym (ap (λ (y : Option Header). is_none y && x) e ∙ no_more x) ∙ n)

-- behind the token of a header a header is seen
header_marks : (h : Header) (s : Bool) (f : Form) (ts : Tokens) → is_other s f ts ≡ true
    → is_header h (header_of f) ≡ true → seen_behind s f ≡ true
header_marks h s form.Include ts n i = refl
header_marks h s (form.Name w) ts n i =
    absurd (bracket_none w (lookup w bracketed) h (not (s && (opens ts && is_library w))) refl n i)
header_marks h s (form.Key k) ts n i = absurd (false≢true i)
header_marks h s (form.Number x k) ts n i = absurd (false≢true i)
header_marks h s (form.Mark m) ts n i = absurd (false≢true i)

none_by : (w : Bytes) (ts us : Tokens) (b : Bool) → (b ≡ true → calls w ts ≡ false) → calls w us ≡ false
    → calls w (cond b ts us) ≡ false
none_by w ts us true h k = h refl
none_by w ts us false h k = k

-- nor is it behind a header
none_behind : (w : Bytes) (h : Header) (s : Bool) (ts : Tokens) → Library w → all_other s ts ≡ true
    → calls w (behind h ts) ≡ false
none_behind w h s [] l n = refl
none_behind w h s (t ∷ ts) l n =
    none_by w ts (behind h ts) (is_header h (header_of t.form))
    (λ e. none_calls w ts l (subst (λ (b : Bool). all_other b ts ≡ true)
    (header_marks h s t.form ts (first_other s t ts n) e) (others s t ts n)))
    (none_behind w h (seen_behind s t.form) ts l (others s t ts n))

-- ROWS

or_left : (a b : Bool) → a ≡ true → (a || b) ≡ true
or_left true true e = refl
or_left true false e = refl
or_left false b e = absurd (false≢true e)

or_right : (a b : Bool) → b ≡ true → (a || b) ≡ true
or_right true b e = or_left true b refl
or_right false b e = e

itself : (w : Bytes) → bytes_eq w w ≡ true
itself w = (bytes_eq-Decides w w).1 refl

row_is_library : (r : Row) (rs : List Row) → ((w : Bytes) → is_row w (r ∷ rs) ≡ true → is_row w table ≡ true)
    → Library r.0
row_is_library r rs sub =
    or_right (bytes_eq r.0 printf) (is_row r.0 table)
    (sub r.0 (or_left (bytes_eq r.0 r.0) (is_row r.0 rs) (itself r.0)))

not_false : (a b : Bool) → a ≡ false → not (a && b) ≡ true
not_false a b e = ap (λ (x : Bool). not (x && b)) e ∙ ap not (no_more b)

-- the function of no row is called
no_row_called : (ts : Tokens) (rs : List Row) → ((w : Bytes) → is_row w rs ≡ true → is_row w table ≡ true)
    → all_other false ts ≡ true → none_called ts rs ≡ true
no_row_called ts [] sub n = refl
no_row_called ts (r ∷ rs) sub n =
    both_true (not (is_called ts r)) (none_called ts rs)
    (not_false (calls r.0 (behind r.1 ts)) (not (owns r.0 0 ts))
    (none_behind r.0 r.1 false ts (row_is_library r rs sub) n))
    (no_row_called ts rs (λ w e. sub w (or_right (bytes_eq w r.0) (is_row w rs) e)) n)

-- FORMATS

literal_closed : (ts : Tokens) → opens ts ≡ false → literal_behind ts ≡ None
literal_closed [] e = refl
literal_closed (p ∷ []) e = refl
literal_closed (p ∷ l ∷ []) e = refl
literal_closed (p ∷ l ∷ x ∷ ts) e =
    let inner : Bool = is_mark mark.Comma x.form || is_mark mark.RightParen x.form in
    ap (λ (b : Bool). cond (b && inner) (literal_at l.offset (string_of l.form)) None) e
    ∙ ap (λ (b : Bool). cond b (literal_at l.offset (string_of l.form)) None) (no_more inner)

called_by : (v : Bytes) (ts : Tokens) (b : Bool) → bytes_eq v printf ≡ b → (v ≡ printf → opens ts ≡ false)
    → cond b (literal_behind ts) None ≡ None
called_by v ts true e h = literal_closed ts (h ((bytes_eq-Decides v printf).0 e))
called_by v ts false e h = refl

-- `printf` is not called by a literal
no_format : (f : Form) (ts : Tokens) → is_other true f ts ≡ true → format_at f ts ≡ None
no_format (form.Name v) ts n =
    called_by v ts (bytes_eq v printf) refl (λ e.
    closed true (opens ts) (is_library v)
    (and_right (is_none (lookup v bracketed)) (not (true && (opens ts && is_library v))) n) refl
    (or_left (bytes_eq v printf) (is_row v table) (ap (λ (x : Bytes). bytes_eq x printf) e ∙ itself printf)))
no_format form.Include ts n = refl
no_format (form.Key k) ts n = refl
no_format (form.Number x k) ts n = refl
no_format (form.Mark m) ts n = refl

-- what is seen of `<stdio.h>` is known
abbrev Knows : Walk → Bool → Type 0
Knows w s = w.seen.stdio ≡ true → s ≡ true

no_call_by : (f : Form) (ts : Tokens) (own s b : Bool) → (b ≡ true → s ≡ true) → is_other s f ts ≡ true
    → cond (b && not own) (format_at f ts) None ≡ None
no_call_by f ts own s false h n =
    ap (λ (x : Bool). cond x (format_at f ts) None) (no_more (not own))
no_call_by f ts true s true h n = refl
no_call_by f ts false s true h n =
    no_format f ts (subst (λ (x : Bool). is_other x f ts ≡ true) (h refl) n)

no_call : (w : Walk) (s : Bool) (t : Lexeme) (ts : Tokens) → Knows w s → is_other s t.form ts ≡ true
    → call w t ts ≡ None
no_call w s t ts h n = no_call_by t.form ts w.own s w.seen.stdio h n

stays_none : (o : Option Header) (x : Bool) → (is_none o && x) ≡ true → stays o None ≡ true
stays_none None x e = refl
stays_none (Some h) x e = absurd (false≢true (sym (no_more x) ∙ e))

stays_other : (s : Bool) (f : Form) (ts : Tokens) → is_other s f ts ≡ true → stays (header_of f) None ≡ true
stays_other s form.Include ts n = refl
stays_other s (form.Name w) ts n =
    stays_none (lookup w bracketed) (not (s && (opens ts && is_library w))) n
stays_other s (form.Key k) ts n = refl
stays_other s (form.Number x k) ts n = refl
stays_other s (form.Mark m) ts n = refl

same_itself : (h : Header) → same_header h h ≡ true
same_itself header.Stdio = refl
same_itself _ = refl

seen_keeps : (s : Bool) (f : Form) → s ≡ true → seen_behind s f ≡ true
seen_keeps s f e = ap (λ (b : Bool). seen_behind b f) e ∙ seen_stays f

knows_by : (w : Walk) (s : Bool) (f : Form) (ts : Tokens) (o : Option Header) → header_of f ≡ o → Knows w s
    → is_other s f ts ≡ true → (seen_past o w.seen).stdio ≡ true → seen_behind s f ≡ true
knows_by w s f ts None e h n = λ k. seen_keeps s f (h k)
knows_by w s f ts (Some g) e h n = λ k. header_marks g s f ts n (ap (is_header g) e ∙ same_itself g)

-- each token stays
each_stays : (w : Walk) (s : Bool) (ts : Tokens) → Knows w s → all_other s ts ≡ true → all_stay w ts ≡ true
each_stays w s [] h n = refl
each_stays w s (t ∷ ts) h n =
    let other : is_other s t.form ts ≡ true = first_other s t ts n in
    both_true (stays (header_of t.form) (call w t ts)) (all_stay (past w t ts) ts)
    (ap (stays (header_of t.form)) (no_call w s t ts h other) ∙ stays_other s t.form ts other)
    (each_stays (past w t ts) (seen_behind s t.form) ts
    (knows_by w s t.form ts (header_of t.form) refl h other) (others s t ts n))

-- a unit with nothing of the library calls none of it
pub others_call_none : (ts : Tokens) → all_other false ts ≡ true → calls_none ts ≡ true
others_call_none ts n =
    both_true (all_stay (start (owns printf 0 ts)) ts) (none_called ts table)
    (each_stays (start (owns printf 0 ts)) false ts (λ e. e) n) (no_row_called ts table (λ w e. e) n)
