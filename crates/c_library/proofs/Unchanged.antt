-- A unit that calls no function of the library has its own tokens.
use Rattle.std.proofs.Common.{◌≡◌, ◌≤◌, length, ℕ, Bool, true, false, cond, not, ◌&&◌, ◌||◌, List, [], ◌∷◌}
use Rattle.std.proofs.Common.{◌++◌, refl, ap, ◌∙◌}
use Rattle.std.specs.Prelude.{is_none, is_some, Option, Some, None, Result, Ok, Err}
use Rattle.std.proofs.lemmas.Bool.{false≢true}
use Rattle.c_tree.specs.declared.Lexeme.{Lexeme}
use Rattle.c_lex.specs.Lexes.{Tokens}
use Rattle.c_library.specs.declared.fault.LibraryFault.{LibraryFault}
use Rattle.c_library.specs.declared.header.Header.{Header}
use Rattle.c_library.specs.declared.header.Header.TheVariants as header
use Rattle.c_library.specs.declared.walk.Awaits.{Awaits}
use Rattle.c_library.specs.declared.walk.Awaits.TheVariants as awaits
use Rattle.c_library.specs.declared.walk.Walk.{Walk}
use Rattle.c_library.specs.Calls.{Call, printf, owns}
use Rattle.c_library.specs.Definitions.{Definitions, Row, with_call, formats, is_called, with_row, with_rows}
use Rattle.c_library.specs.Headers.{header_of, has_seen}
use Rattle.c_library.specs.Library.{here, kept, placed, with_formats, with_library}
use Rattle.c_library.specs.Spelled.{forms_of}
use Rattle.c_library.specs.Table.{table}
use Rattle.c_library.specs.Uncalled.{is_kept, stays, all_stay, none_called, calls_none}
use Rattle.c_library.specs.Walks.{start, call, awaits_past, past}
use Rattle.c_library.specs.Within.{◌>>=◌, within}
use Rattle.c_library.proofs.Puts.{few_stay}

and_left : (a b : Bool) → (a && b) ≡ true → a ≡ true
and_left true b e = refl
and_left false b e = absurd (cc)

and_right : (a b : Bool) → (a && b) ≡ true → b ≡ true
and_right true b e = e
and_right false b e = absurd (cc)

none_is : (c : Option Call) → is_none c ≡ true → c ≡ None
none_is None e = refl
none_is (Some c) e = absurd (false≢true e)

first_stays : (w : Walk) (t : Lexeme) (ts : Tokens) → all_stay w (t ∷ ts) ≡ true
    → stays (header_of t.form) (call w t ts) ≡ true
first_stays w t ts e = and_left (stays (header_of t.form) (call w t ts)) (all_stay (past w t ts) ts) e

others_stay : (w : Walk) (t : Lexeme) (ts : Tokens) → all_stay w (t ∷ ts) ≡ true → all_stay (past w t ts) ts ≡ true
others_stay w t ts e = and_right (stays (header_of t.form) (call w t ts)) (all_stay (past w t ts) ts) e

-- a token that stays is no call
no_call : (w : Walk) (t : Lexeme) (ts : Tokens) → all_stay w (t ∷ ts) ≡ true → call w t ts ≡ None
no_call w t ts e =
    none_is (call w t ts) (and_right (is_kept (header_of t.form)) (is_none (call w t ts)) (first_stays w t ts e))

-- so that there is no definition of a format
no_formats : (w : Walk) (ts : Tokens) (ds : Definitions) → all_stay w ts ≡ true → formats w ts ds ≡ Ok ds
no_formats w [] ds e = refl
no_formats w (t ∷ ts) ds e =
    ap (λ (c : Option Call). with_call c ds >>= formats (past w t ts) ts) (no_call w t ts e)
    ∙ no_formats (past w t ts) ts ds (others_stay w t ts e)

is_false : (b : Bool) → not b ≡ true → b ≡ false
is_false true e = absurd (false≢true e)
is_false false e = refl

not_added : (ts : Tokens) (r : Row) → is_called ts r ≡ false → with_row ts r [] ≡ []
not_added ts r e =
    ap (λ (b : Bool). cond (b || false) (record { name = r.0; header = r.1; forms = forms_of r.2 } ∷ []) []) e

-- nor one of a function
no_rows : (ts : Tokens) (rs : List Row) → none_called ts rs ≡ true → with_rows ts rs [] ≡ []
no_rows ts [] e = refl
no_rows ts (r ∷ rs) e =
    let free : is_called ts r ≡ false =
    is_false (is_called ts r) (and_left (not (is_called ts r)) (none_called ts rs) e) in
    let others : none_called ts rs ≡ true = and_right (not (is_called ts r)) (none_called ts rs) e in
    ap (λ (ds : Definitions). with_row ts r ds) (no_rows ts rs others) ∙ not_added ts r free

header_stays : (w : Walk) (t : Lexeme) (ts : Tokens) (o : Option Header) → is_kept o ≡ true
    → w.awaits ≡ awaits.Nothing → call w t ts ≡ None → here [] w t ts o ≡ t ∷ []
header_stays w t ts None k a c =
    ap (λ (x : Awaits). kept x (call w t ts) t) a ∙ ap (λ (x : Option Call). kept awaits.Nothing x t) c
header_stays w t ts (Some header.Stdio) k a c = by (has_seen header.Stdio w.seen)
  where
    by : (b : Bool) → (t ∷ [] ++ cond b [] []) ≡ t ∷ []
    by true = refl
    by false = refl
header_stays w t ts (Some header.Ctype) k a c = absurd (false≢true k)
header_stays w t ts (Some header.Stdlib) k a c = absurd (false≢true k)
header_stays w t ts (Some header.String) k a c = absurd (false≢true k)

still_nothing : (w : Walk) (t : Lexeme) (ts : Tokens) → w.awaits ≡ awaits.Nothing → call w t ts ≡ None
    → (past w t ts).awaits ≡ awaits.Nothing
still_nothing w t ts a c =
    ap (λ (x : Awaits). awaits_past x (is_some (call w t ts))) a
    ∙ ap (λ (x : Option Call). awaits_past awaits.Nothing (is_some x)) c

-- and each token stays
all_placed : (w : Walk) (ts : Tokens) → w.awaits ≡ awaits.Nothing → all_stay w ts ≡ true → placed [] w ts ≡ ts
all_placed w [] a e = refl
all_placed w (t ∷ ts) a e =
    let first : is_kept (header_of t.form) ≡ true =
    and_left (is_kept (header_of t.form)) (is_none (call w t ts)) (first_stays w t ts e) in
    let none : call w t ts ≡ None = no_call w t ts e in
    ap (λ (us : Tokens). us ++ placed [] (past w t ts) ts) (header_stays w t ts (header_of t.form) first a none)
    ∙ ap (λ (us : Tokens). t ∷ us)
    (all_placed (past w t ts) ts (still_nothing w t ts a none) (others_stay w t ts e))

-- a unit that calls no function of the library is its own, if it is short enough
pub library_stays : (most : ℕ) (ts : Tokens) → calls_none ts ≡ true → with_library most ts ≡ within most ts
library_stays most ts e =
    let w : Walk = start (owns printf 0 ts) in
    let stay : all_stay w ts ≡ true = and_left (all_stay w ts) (none_called ts table) e in
    let none : none_called ts table ≡ true = and_right (all_stay w ts) (none_called ts table) e in
    ap (λ (m : Result Definitions LibraryFault). m >>= with_formats most ts) (no_formats w ts [] stay)
    ∙ ap (λ (ds : Definitions). within most (placed ds w ts)) (no_rows ts table none)
    ∙ ap (λ (us : Tokens). within most us) (all_placed w ts refl stay)

pub unit_stays : (most : ℕ) (ts : Tokens) → calls_none ts ≡ true → length ts ≤ most → with_library most ts ≡ Ok ts
unit_stays most ts e h = library_stays most ts e ∙ few_stay most ts h
