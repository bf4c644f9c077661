-- What holds of each token of a unit, of all that the library may add and of the formats' definitions holds of each
-- token of the unit with the library.
use Rattle.std.proofs.Common.{◌≡◌, ◌<◌, ℕ, ◌+◌, ◌*◌, ◌-◌, ◌%◌, Bool, true, false, cond, nat_eq, ◌&&◌, ◌||◌, not}
use Rattle.std.proofs.Common.{List, [], ◌∷◌, ◌++◌, refl, arith, subst, sym}
use Rattle.std.specs.Prelude.{Option, Some, None, Result, Ok, Err}
use Rattle.std.specs.Str.{bytes_eq}
use Rattle.c_tree.specs.declared.Form.{Form}
use Rattle.c_tree.specs.declared.Form.TheVariants as form
use Rattle.c_tree.specs.declared.Key.{Key}
use Rattle.c_tree.specs.declared.Kind.TheVariants.{Int}
use Rattle.c_tree.specs.declared.Lexeme.{Lexeme}
use Rattle.c_tree.specs.declared.Mark.{Mark}
use Rattle.c_tree.specs.declared.Mark.TheVariants as mark
use Rattle.c_lex.specs.Ascii as ascii
use Rattle.c_lex.specs.Bytes.{Bytes, is_digit}
use Rattle.c_lex.specs.Lexes.{Tokens}
use Rattle.c_lex.specs.Tables.{lookup, keywords, marks}
use Rattle.c_library.specs.declared.definition.Definition.{Definition}
use Rattle.c_library.specs.declared.fault.LibraryFault.{LibraryFault}
use Rattle.c_library.specs.declared.header.Header.{Header}
use Rattle.c_library.specs.declared.header.Header.TheVariants as header
use Rattle.c_library.specs.declared.walk.Awaits.{Awaits}
use Rattle.c_library.specs.declared.walk.Awaits.TheVariants as awaits
use Rattle.c_library.specs.declared.walk.Walk.{Walk}
use Rattle.c_library.specs.Calls.{Call, printf, is_mark, owns, format_of}
use Rattle.c_library.specs.Definitions.{Definitions, Row, is_defined, with_forms, with_format, with_call, formats}
use Rattle.c_library.specs.Definitions.{is_called, is_named, with_row, with_rows}
use Rattle.c_library.specs.Formats.{printf_name, printf_definition}
use Rattle.c_library.specs.Headers.{header_of, has_seen, same_header}
use Rattle.c_library.specs.Library.{defined_at, header_kept, named, kept, here, placed, with_formats, with_library}
use Rattle.c_library.specs.Places.{token, tokens}
use Rattle.c_library.specs.Spelled.{decimal, include_word, of_name, of_these, word_form, forms_from, forms_of}
use Rattle.c_library.specs.Table.{table}
use Rattle.c_library.specs.Walks.{start, call, past}
use Rattle.c_library.specs.Within.{◌>>=◌, within}
use Rattle.c_library.proofs.Holds.{Fact, EachForm, EachToken, Allows, each_append}
use Rattle.c_library.proofs.Puts.{within_is}

-- WORDS

below : (n : ℕ) → n % 2147483648 < 2147483648
below n = omega arith

decimal_below : (n : ℕ) (bs : Bytes) → n < 2147483648 → decimal n bs < 2147483648
decimal_below n [] h = h
decimal_below n (b ∷ bs) h =
    decimal_below ((10 * n + (b - ascii.digit_0)) % 2147483648) bs (below (10 * n + (b - ascii.digit_0)))

by_word : (P : Fact) → Allows P → (w : Bytes) (b : Bool) → P (cond b form.Include (form.Name w))
by_word P a w true = a.include
by_word P a w false = a.name w

name_has : (P : Fact) → Allows P → (w : Bytes) → P (of_name w)
name_has P a w = by_word P a w (bytes_eq w include_word)

these_have : (P : Fact) → Allows P → (w : Bytes) (k : Option Key) (m : Option Mark) → P (of_these w k m)
these_have P a w (Some k) m = a.key k
these_have P a w None (Some m) = a.mark m
these_have P a w None None = name_has P a w

by_digit : (P : Fact) → Allows P → (w : Bytes) (b : Bool)
    → P (cond b (form.Number (decimal 0 w) Int) (of_these w (lookup w keywords) (lookup w marks)))
by_digit P a w true = a.number (decimal 0 w) Int (decimal_below 0 w (omega arith)) refl
by_digit P a w false = these_have P a w (lookup w keywords) (lookup w marks)

word_has : (P : Fact) → Allows P → (w : Bytes) → P (word_form w)
word_has P a [] = a.name []
word_has P a (b ∷ bs) = by_digit P a (b ∷ bs) (is_digit b)

either_forms : (P : Fact) (b : Bool) (fs gs : List Form) → EachForm P fs → EachForm P gs → EachForm P (cond b fs gs)
either_forms P true fs gs h k = h
either_forms P false fs gs h k = k

forms_have : (P : Fact) → Allows P → (w bs : Bytes) → EachForm P (forms_from w bs)
forms_have P a w [] = (word_has P a w, tt)
forms_have P a w (b ∷ bs) =
    either_forms P (nat_eq b ascii.space) (word_form w ∷ forms_from [] bs) (forms_from (w ++ b ∷ []) bs)
    (word_has P a w, forms_have P a [] bs) (forms_have P a (w ++ b ∷ []) bs)

-- DEFINITIONS

-- it holds of each form of each definition
abbrev EachDefinition : Fact → Definitions → Type 0
EachDefinition P [] = Unit {0}
EachDefinition P (d ∷ ds) = EachForm P d.forms × EachDefinition P ds

-- it holds of the definition of each format
abbrev pub FormatsHave : Fact → Type 0
FormatsHave P = (format : Bytes) (fs : List Form) → printf_definition format ≡ Some fs → EachForm P fs

-- what an answer gives has a property
abbrev OkHas : {A : Type 0} → (A → Type 0) → Result A LibraryFault → Type 0
OkHas Q (Ok x) = Q x
OkHas Q (Err e) = Unit {0}

-- one step after another
bound : {A B : Type 0} (Q : A → Type 0) (R : B → Type 0) (m : Result A LibraryFault) (f : A → Result B LibraryFault)
    → OkHas Q m → ((x : A) → Q x → OkHas R (f x)) → OkHas R (m >>= f)
bound Q R (Ok x) f h g = g x h
bound Q R (Err e) f h g = tt

definition_end : (P : Fact) (ds : Definitions) (d : Definition) → EachDefinition P ds → EachForm P d.forms
    → EachDefinition P (ds ++ d ∷ [])
definition_end P [] d h p = (p, tt)
definition_end P (x ∷ ds) d h p = (h.0, definition_end P ds d h.1 p)

by_forms : (P : Fact) (at : ℕ) (w : Bytes) (o : Option (List Form)) (ds : Definitions) → EachDefinition P ds
    → ((fs : List Form) → o ≡ Some fs → EachForm P fs) → OkHas (EachDefinition P) (with_forms at w o ds)
by_forms P at w None ds h g = tt
by_forms P at w (Some fs) ds h g =
    definition_end P ds (record { name = w; header = header.Stdio; forms = fs }) h (g fs refl)

either : {A : Type 0} (Q : A → Type 0) (b : Bool) (x y : Result A LibraryFault) → OkHas Q x → OkHas Q y
    → OkHas Q (cond b x y)
either Q true x y h k = h
either Q false x y h k = k

call_has : (P : Fact) (c : Option Call) (ds : Definitions) → FormatsHave P → EachDefinition P ds
    → OkHas (EachDefinition P) (with_call c ds)
call_has P None ds f h = h
call_has P (Some c) ds f h =
    let w : Bytes = printf_name (format_of c.1) in
    let o : Option (List Form) = printf_definition (format_of c.1) in
    either (EachDefinition P) (is_defined w ds) (Ok ds) (with_forms c.0 w o ds) h
    (by_forms P c.0 w o ds h (f (format_of c.1)))

formats_have : (P : Fact) (w : Walk) (ts : Tokens) (ds : Definitions) → FormatsHave P → EachDefinition P ds
    → OkHas (EachDefinition P) (formats w ts ds)
formats_have P w [] ds f h = h
formats_have P w (t ∷ ts) ds f h =
    bound (EachDefinition P) (EachDefinition P) (with_call (call w t ts) ds) (formats (past w t ts) ts)
    (call_has P (call w t ts) ds f h) (λ x q. formats_have P (past w t ts) ts x f q)

either_definitions : (P : Fact) (b : Bool) (ds es : Definitions) → EachDefinition P ds → EachDefinition P es
    → EachDefinition P (cond b ds es)
either_definitions P true ds es h k = h
either_definitions P false ds es h k = k

row_has : (P : Fact) → Allows P → (ts : Tokens) (r : Row) (ds : Definitions) → EachDefinition P ds
    → EachDefinition P (with_row ts r ds)
row_has P a ts r ds h =
    let d : Definition = record { name = r.0; header = r.1; forms = forms_of r.2 } in
    either_definitions P (is_called ts r || is_named r.0 ds) (ds ++ d ∷ []) ds
    (definition_end P ds d h (forms_have P a [] r.2)) h

rows_have : (P : Fact) → Allows P → (ts : Tokens) (rs : List Row) (ds : Definitions) → EachDefinition P ds
    → EachDefinition P (with_rows ts rs ds)
rows_have P a ts [] ds h = h
rows_have P a ts (r ∷ rs) ds h = row_has P a ts r (with_rows ts rs ds) (rows_have P a ts rs ds h)

-- TOKENS

tokens_have : (P : Fact) (at : ℕ) (fs : List Form) → EachForm P fs → EachToken P (tokens at fs)
tokens_have P at [] h = tt
tokens_have P at (f ∷ fs) h = (h.0, tokens_have P at fs h.1)

either_tokens : (P : Fact) (b : Bool) (xs ys : Tokens) → EachToken P xs → EachToken P ys → EachToken P (cond b xs ys)
either_tokens P true xs ys h k = h
either_tokens P false xs ys h k = k

defined_have : (P : Fact) (at : ℕ) (h : Header) (ds : Definitions) → EachDefinition P ds
    → EachToken P (defined_at at h ds)
defined_have P at h [] e = tt
defined_have P at h (d ∷ ds) e =
    each_append P (defined_at at h ds) (cond (same_header d.header h) (tokens at d.forms) [])
    (defined_have P at h ds e.1)
    (either_tokens P (same_header d.header h) (tokens at d.forms) [] (tokens_have P at d.forms e.0) tt)

header_has : (P : Fact) (h : Header) (t : Lexeme) → P t.form → EachToken P (header_kept h t)
header_has P header.Stdio t p = (p, tt)
header_has P header.Ctype t p = tt
header_has P header.Stdlib t p = tt
header_has P header.String t p = tt

named_has : (P : Fact) → Allows P → (c : Option Call) (t : Lexeme) → P t.form → EachToken P (named c t)
named_has P a None t p = (p, tt)
named_has P a (Some c) t p = (a.name (printf_name (format_of c.1)), tt)

kept_has : (P : Fact) → Allows P → (x : Awaits) (c : Option Call) (t : Lexeme) → P t.form → EachToken P (kept x c t)
kept_has P a awaits.Nothing c t p = named_has P a c t p
kept_has P a awaits.Paren c t p = (p, tt)
kept_has P a awaits.Literal c t p = tt
kept_has P a awaits.Comma c t p = either_tokens P (is_mark mark.Comma t.form) [] (t ∷ []) tt (p, tt)

here_has : (P : Fact) → Allows P → (ds : Definitions) (w : Walk) (t : Lexeme) (ts : Tokens) (o : Option Header)
    → EachDefinition P ds → P t.form → EachToken P (here ds w t ts o)
here_has P a ds w t ts None d p = kept_has P a w.awaits (call w t ts) t p
here_has P a ds w t ts (Some h) d p =
    each_append P (header_kept h t) (cond (has_seen h w.seen) [] (defined_at t.offset h ds)) (header_has P h t p)
    (either_tokens P (has_seen h w.seen) [] (defined_at t.offset h ds) tt (defined_have P t.offset h ds d))

placed_have : (P : Fact) → Allows P → (ds : Definitions) (w : Walk) (ts : Tokens) → EachDefinition P ds
    → EachToken P ts → EachToken P (placed ds w ts)
placed_have P a ds w [] d h = tt
placed_have P a ds w (t ∷ ts) d h =
    each_append P (here ds w t ts (header_of t.form)) (placed ds (past w t ts) ts)
    (here_has P a ds w t ts (header_of t.form) d h.0) (placed_have P a ds (past w t ts) ts d h.1)

within_has : (P : Fact) (most : ℕ) (ts : Tokens) (m : Result Tokens LibraryFault) → within most ts ≡ m
    → EachToken P ts → OkHas (EachToken P) m
within_has P most ts (Ok us) e h = subst (EachToken P) (within_is most ts us e) h
within_has P most ts (Err x) e h = tt

-- the unit with the library
pub library_keeps : (P : Fact) (most : ℕ) (ts us : Tokens) → Allows P → FormatsHave P → EachToken P ts
    → with_library most ts ≡ Ok us → EachToken P us
library_keeps P most ts us a f h e =
    let w : Walk = start (owns printf 0 ts) in
    subst (λ (m : Result Tokens LibraryFault). OkHas (EachToken P) m) e
    (bound (EachDefinition P) (EachToken P) (formats w ts []) (with_formats most ts) (formats_have P w ts [] f tt)
    (λ ds q. within_has P most (placed (with_rows ts table ds) w ts) (with_formats most ts ds) refl
    (placed_have P a (with_rows ts table ds) w ts (rows_have P a ts table ds q) h)))
