-- Units without names stay; and what holds of each token, and of all that may be added, holds of each that comes out.
use Rattle.std.proofs.Common.{◌≡◌, ◌≤◌, ◌<◌, ℕ, zero, suc, ◌^◌, ◌%◌, Bool, true, false, cond, not, ◌&&◌}
use Rattle.std.proofs.Common.{List, [], ◌∷◌, ◌++◌, length, Option, Some, None, refl, sym, ap, ◌∙◌, arith}
use Rattle.std.specs.Prelude.{Ok, codes, nat_eq}
use Rattle.std.specs.Str.{bytes_eq}
use Rattle.std.proofs.lemmas.Bool.{false≢true}
use Rattle.std.proofs.lemmas.Slice.Eq.{bytes_eq-Decides}
use Rattle.c_tree.specs.declared.Form.{Form}
use Rattle.c_tree.specs.declared.Form.TheVariants as form
use Rattle.c_tree.specs.declared.Key.{Key}
use Rattle.c_tree.specs.declared.Key.TheVariants as key
use Rattle.c_tree.specs.declared.Kind.TheVariants as kind
use Rattle.c_tree.specs.declared.Lexeme.{Lexeme}
use Rattle.c_tree.specs.declared.Mark.{Mark}
use Rattle.c_tree.specs.declared.Mark.TheVariants as mark
use Rattle.c_lex.specs.Bytes.{Bytes}
use Rattle.c_lex.specs.Lexes.{Tokens}
use Rattle.c_library.specs.Places.{token}
use Rattle.c_library.specs.Within.{within}
use Rattle.c_library.proofs.Holds.{Fact, EachToken, Allows, each_append}
use Rattle.c_library.proofs.Puts.{few_stay}
use Rattle.c_names.specs.declared.piece.Piece.{Piece}
use Rattle.c_names.specs.declared.piece.Piece.TheVariants as piece
use Rattle.c_names.specs.declared.scope.Entry.TheVariants as entry
use Rattle.c_names.specs.declared.turn.Names.{Names}
use Rattle.c_names.specs.Enums.{Taken, is_known, is_enum, tag_size, enum_from, words_type, type_from}
use Rattle.c_names.specs.Enums.{enum_behind, typedef_behind}
use Rattle.c_names.specs.Headers.{Row, sizes, definitions, integers, is_header, goes, has_sizes, types_of, with_types}
use Rattle.c_names.specs.Named.{named_in, named, beginning, may_be_type, key_stays, stays, has_no_name}
use Rattle.c_names.specs.Pieces.{Pieces, form_of, spelled}
use Rattle.c_names.specs.Scope.{Scope, look_up, in_parens, outside, closed, past, is_own, tag}
use Rattle.c_names.specs.Words.{begins, words_from, size_of, is_byte, is_long, is_integer, said}
use Rattle.c_names.specs.declared.words.Class.TheVariants as class
use Rattle.c_names.specs.Turns.{Turn, turn, left, behind_first, plain, typedef_turn, enum_turn, sizeof_by}
use Rattle.c_names.specs.Turns.{sizeof_type, sizeof_turn, replaced, own_turn, header_turn, name_turn}
use Rattle.c_names.specs.Turns.{key_turn, turn_by, turn_of}
use Rattle.c_names.proofs.Rests.{turn_left}

-- UNITS WITHOUT NAMES

both_hold : (a b : Bool) → (a && b) ≡ true → (a ≡ true) × (b ≡ true)
both_hold true b e = (refl, e)
both_hold false b e = absurd (false≢true e)

-- is each name one that may be of a header's type?
abbrev all_headers : Scope → Bool
all_headers [] = true
all_headers (entry.Name n ps ∷ es) = may_be_type n && all_headers es
all_headers (entry.Block ∷ es) = all_headers es
all_headers (entry.Paren ∷ es) = all_headers es

found_by : (b : Bool) (n w : Bytes) (ps : Pieces) (es : Scope) → bytes_eq n w ≡ b → may_be_type n ≡ true
    → may_be_type w ≡ false → look_up w es ≡ None → cond b (Some ps) (look_up w es) ≡ None
found_by false n w ps es e h k l = l
found_by true n w ps es e h k l =
    let same : n ≡ w = (bytes_eq-Decides n w).0 e in
    absurd (false≢true (sym k ∙ ap may_be_type (sym same) ∙ h))

-- another name stands for nothing
not_found : (w : Bytes) (es : Scope) → all_headers es ≡ true → may_be_type w ≡ false → look_up w es ≡ None
not_found w [] e k = refl
not_found w (entry.Name n ps ∷ es) e k =
    let both = both_hold (may_be_type n) (all_headers es) e in
    found_by (bytes_eq n w) n w ps es refl both.0 k (not_found w es both.1 k)
not_found w (entry.Block ∷ es) e k = not_found w es e k
not_found w (entry.Paren ∷ es) e k = not_found w es e k

outside_headers : (es : Scope) → all_headers es ≡ true → all_headers (outside es) ≡ true
outside_headers [] e = refl
outside_headers (entry.Name n ps ∷ es) e = outside_headers es (both_hold (may_be_type n) (all_headers es) e).1
outside_headers (entry.Block ∷ es) e = e
outside_headers (entry.Paren ∷ es) e = outside_headers es e

closed_headers : (es : Scope) → all_headers es ≡ true → all_headers (closed es) ≡ true
closed_headers [] e = refl
closed_headers (entry.Name n ps ∷ es) e = e
closed_headers (entry.Block ∷ es) e = e
closed_headers (entry.Paren ∷ es) e = e

past_headers : (m : Mark) (es : Scope) → all_headers es ≡ true → all_headers (past m es) ≡ true
past_headers mark.LeftBrace es e = e
past_headers mark.LeftParen es e = e
past_headers mark.RightBrace es e = outside_headers es e
past_headers mark.RightParen es e = closed_headers es e
past_headers _ es e = e

-- is each row's name one that may be of a header's type?
abbrev all_types : List Row → Bool
all_types [] = true
all_types (r ∷ rs) = may_be_type r.0 && all_types rs

and_both : (a b : Bool) → a ≡ true → b ≡ true → (a && b) ≡ true
and_both a b e f = ap (λ (x : Bool). x && b) e ∙ f

types_headers : (rs : List Row) (es : Scope) → all_types rs ≡ true → all_headers es ≡ true
    → all_headers (with_types rs es) ≡ true
types_headers [] es e h = h
types_headers (r ∷ rs) es e h =
    let both = both_hold (may_be_type r.0) (all_types rs) e in
    types_headers rs (entry.Name r.0 r.1 ∷ es) both.1 (and_both (may_be_type r.0) (all_headers es) both.0 h)

sizes_headers : all_types sizes ≡ true
unfolding sizes
sizes_headers = refl

definitions_headers : all_types definitions ≡ true
unfolding definitions
definitions_headers = refl

integers_headers : all_types integers ≡ true
unfolding integers
integers_headers = refl

either_types : (b : Bool) (x y : List Row) → all_types x ≡ true → all_types y ≡ true → all_types (cond b x y) ≡ true
either_types true x y e f = e
either_types false x y e f = f

header_headers : (w : Bytes) → all_types (types_of w) ≡ true
header_headers w =
    let small : List Row = cond (has_sizes w) sizes [] in
    let other : List Row = cond (bytes_eq w (codes "<stddef.h>")) definitions small in
    either_types (bytes_eq w (codes "<stdint.h>")) integers other integers_headers
    (either_types (bytes_eq w (codes "<stddef.h>")) definitions small definitions_headers
    (either_types (has_sizes w) sizes [] sizes_headers refl))

-- A turn that changes nothing but what it knows.
record Stays (x : Turn) (t : Lexeme) (ts : Tokens) : Type 0 where
  pub out : x.out ≡ t ∷ []
  pub rest : x.rest ≡ ts
  pub knows : all_headers x.names.scope ≡ true

either_stays : (b : Bool) (x y : Turn) (t : Lexeme) (ts : Tokens) → Stays x t ts → Stays y t ts
    → Stays (cond b x y) t ts
either_stays true x y t ts h k = h
either_stays false x y t ts h k = k

key_same : (ns : Names) (t : Lexeme) (ts : Tokens) (k : Key) → all_headers ns.scope ≡ true → key_stays k ≡ true
    → Stays (key_turn ns t ts k) t ts
key_same ns t ts key.Typedef h e = absurd (false≢true e)
key_same ns t ts key.Enum h e = absurd (false≢true e)
key_same ns t ts key.Sizeof h e = absurd (false≢true e)
key_same ns t ts _ h e = record { out = refl; rest = refl; knows = h }

name_same : (es : Scope) (t : Lexeme) (ts : Tokens) (w : Bytes) → all_headers es ≡ true → may_be_type w ≡ false
    → goes w ≡ false → Stays (name_turn es t ts w) t ts
name_same es t ts w h m g =
    either_stays (is_header w) (header_turn es t ts w) (own_turn es t ts w) t ts
    (record {
      out = ap (λ (b : Bool). cond b [] (t ∷ [])) g;
      rest = refl;
      knows = types_headers (types_of w) es (header_headers w) h;
    })
    (record { out = ap (replaced t) (not_found w es h m); rest = refl; knows = h })

not_true : (b : Bool) → not b ≡ true → b ≡ false
not_true true e = absurd (false≢true e)
not_true false e = refl

by_same : (ns : Names) (t : Lexeme) (ts : Tokens) (f : Form) → all_headers ns.scope ≡ true → stays f ≡ true
    → Stays (turn_by ns t ts f) t ts
by_same ns t ts (form.Key k) h e = key_same ns t ts k h e
by_same ns t ts (form.Name w) h e =
    let both = both_hold (not (may_be_type w)) (not (goes w)) e in
    name_same ns.scope t ts w h (not_true (may_be_type w) both.0) (not_true (goes w) both.1)
by_same ns t ts (form.Mark m) h e = record { out = refl; rest = refl; knows = past_headers m ns.scope h }
by_same ns t ts form.Include h e =
    record { out = refl; rest = refl; knows = types_headers sizes ns.scope sizes_headers h }
by_same ns t ts (form.Number n k) h e = record { out = refl; rest = refl; knows = h }

all_same : (ns : Names) (ts : Tokens) → all_headers ns.scope ≡ true → has_no_name ts ≡ true
    → named_in (length ts) ns ts ≡ ts
all_same ns [] h e = refl
all_same ns (t ∷ ts) h e =
    let both = both_hold (stays t.form) (has_no_name ts) e in
    let same : Stays (turn_of ns t ts) t ts = by_same ns t ts t.form h both.0 in
    let names : Names = (turn_of ns t ts).names in
    ap (λ (xs : Tokens). xs ++ named_in (length ts) names (turn_of ns t ts).rest) same.out
    ∙ ap (λ (xs : Tokens). t ∷ named_in (length ts) names xs) same.rest
    ∙ ap (λ (xs : Tokens). t ∷ xs) (all_same names ts same.knows both.1)

-- a unit without names of types and of enumeration constants, and without `sizeof`, is its own
pub named_stays : (ts : Tokens) → has_no_name ts ≡ true → named ts ≡ ts
named_stays ts e = all_same beginning ts refl e

-- and few enough tokens are all there
pub unit_stays : (most : ℕ) (ts : Tokens) → has_no_name ts ≡ true → length ts ≤ most → within most (named ts) ≡ Ok ts
unit_stays most ts e h = ap (within most) (named_stays ts e) ∙ few_stay most ts h

-- FACTS

below : (n : ℕ) → n % 2 ^ 31 < 2 ^ 31
below n = omega arith

form_has : (P : Fact) → Allows P → (p : Piece) → P (form_of p)
form_has P a (piece.Word k) = a.key k
form_has P a (piece.Constant n) = a.number (n % 2 ^ 31) kind.Int (below n) refl
form_has P a (piece.Sign m) = a.mark m

spelled_has : (P : Fact) → Allows P → (at : ℕ) (ps : Pieces) → EachToken P (spelled at ps)
spelled_has P a at [] = tt
spelled_has P a at (p ∷ ps) = (form_has P a p, spelled_has P a at ps)

either_has : (P : Fact) (b : Bool) (x y : Turn) → EachToken P x.out → EachToken P y.out → EachToken P (cond b x y).out
either_has P true x y h k = h
either_has P false x y h k = k

-- a size is small, if it is one
abbrev Small : Option ℕ → Type 0
Small None = Unit {0}
Small (Some n) = n < 2 ^ 31

either_small : (b : Bool) (x y : Option ℕ) → Small x → Small y → Small (cond b x y)
either_small true x y h k = h
either_small false x y h k = k

size_small : (ws : Pieces) → Small (size_of ws)
size_small ws =
    let four : Option ℕ = cond (is_integer 0 class.Other ws && not (nat_eq (said ws) 0)) (Some 4) None in
    let long : Option ℕ = cond (is_long ws) (Some 8) four in
    let short : Option ℕ = cond (is_integer 1 class.Short ws) (Some 2) long in
    either_small (is_byte ws) (Some 1) short (omega arith)
    (either_small (is_integer 1 class.Short ws) (Some 2) long (omega arith)
    (either_small (is_long ws) (Some 8) four (omega arith)
    (either_small (is_integer 0 class.Other ws && not (nat_eq (said ws) 0)) (Some 4) None (omega arith) tt)))

tag_small : (f : Form) (es : Scope) → Small (tag_size f es)
tag_small (form.Name w) es =
    either_small (is_own w && is_known (form.Name (tag w)) es) (Some 4) None (omega arith) tt
tag_small (form.Key k) es = tt
tag_small (form.Mark m) es = tt
tag_small (form.Number n k) es = tt
tag_small form.Include es = tt

enum_small : (es : Scope) (ts : Tokens) → Small (enum_from es ts).0
enum_small es [] = tt
enum_small es (t ∷ ts) = tag_small t.form es

pick_small : (b : Bool) (x y : Option ℕ × Tokens) → Small x.0 → Small y.0 → Small (cond b x y).0
pick_small true x y h k = h
pick_small false x y h k = k

type_small : (es : Scope) (ts : Tokens) → Small (type_from es ts).0
type_small es [] = tt
type_small es (t ∷ ts) =
    let words : Pieces × Tokens = words_from es [] (t ∷ ts) in
    pick_small (is_enum t.form) (enum_from es ts) (words_type words) (enum_small es ts) (size_small words.0)

typedef_has : (P : Fact) (t : Lexeme) (ts : Tokens) (m : Taken) → P t.form → EachToken P ts
    → EachToken P (typedef_turn t ts m).out
typedef_has P t ts None p h = (p, h)
typedef_has P t ts (Some x) p h = tt

enum_has : (P : Fact) → Allows P → (b : Bool) (t : Lexeme) (ts : Tokens) (m : Taken) → P t.form → EachToken P ts
    → EachToken P (enum_turn b t ts m).out
enum_has P a b t ts None p h = (p, h)
enum_has P a b t ts (Some x) p h =
    either_has P (b && begins mark.Semicolon x.1) (turn [] true x.0 (behind_first x.1))
    (turn (token t.offset (form.Key key.Int) ∷ []) false x.0 x.1) tt (a.key key.Int, tt)

sizeof_by_has : (P : Fact) → Allows P → (ns : Names) (t : Lexeme) (ts : Tokens) (o : Option ℕ) (rest : Tokens) → Small o
    → P t.form → EachToken P (sizeof_by ns t ts o rest).out
sizeof_by_has P a ns t ts None rest s p = (p, tt)
sizeof_by_has P a ns t ts (Some n) rest s p =
    either_has P (begins mark.RightParen rest)
    (turn (token t.offset (form.Number n kind.ULong) ∷ []) false ns.scope (behind_first rest)) (plain ns t ts)
    (a.number n kind.ULong s refl, tt) (p, tt)

sizeof_has : (P : Fact) → Allows P → (ns : Names) (t : Lexeme) (ts : Tokens) → P t.form
    → EachToken P (sizeof_turn ns t ts).out
sizeof_has P a ns t ts p =
    let x : Option ℕ × Tokens = type_from ns.scope (behind_first ts) in
    either_has P (begins mark.LeftParen ts) (sizeof_type ns t ts x) (plain ns t ts)
    (sizeof_by_has P a ns t ts x.0 x.1 (type_small ns.scope (behind_first ts)) p) (p, tt)

key_has : (P : Fact) → Allows P → (ns : Names) (t : Lexeme) (ts : Tokens) (k : Key) → P t.form → EachToken P ts
    → EachToken P (key_turn ns t ts k).out
key_has P a ns t ts key.Typedef p h =
    either_has P (ns.starts && not (in_parens ns.scope)) (typedef_turn t ts (typedef_behind ns.scope ts)) (left t ts)
    (typedef_has P t ts (typedef_behind ns.scope ts) p h) (p, h)
key_has P a ns t ts key.Enum p h = enum_has P a ns.starts t ts (enum_behind ns.scope ts) p h
key_has P a ns t ts key.Sizeof p h = sizeof_has P a ns t ts p
key_has P a ns t ts _ p h = (p, tt)

replaced_has : (P : Fact) → Allows P → (t : Lexeme) (o : Option Pieces) → P t.form → EachToken P (replaced t o)
replaced_has P a t None p = (p, tt)
replaced_has P a t (Some ps) p = spelled_has P a t.offset ps

header_has : (P : Fact) (b : Bool) (t : Lexeme) → P t.form → EachToken P (cond b [] (t ∷ []))
header_has P true t p = tt
header_has P false t p = (p, tt)

name_has : (P : Fact) → Allows P → (es : Scope) (t : Lexeme) (ts : Tokens) (w : Bytes) → P t.form
    → EachToken P (name_turn es t ts w).out
name_has P a es t ts w p =
    either_has P (is_header w) (header_turn es t ts w) (own_turn es t ts w) (header_has P (goes w) t p)
    (replaced_has P a t (look_up w es) p)

by_has : (P : Fact) → Allows P → (ns : Names) (t : Lexeme) (ts : Tokens) (f : Form) → P t.form → EachToken P ts
    → EachToken P (turn_by ns t ts f).out
by_has P a ns t ts (form.Key k) p h = key_has P a ns t ts k p h
by_has P a ns t ts (form.Name w) p h = name_has P a ns.scope t ts w p
by_has P a ns t ts (form.Mark m) p h = (p, tt)
by_has P a ns t ts form.Include p h = (p, tt)
by_has P a ns t ts (form.Number n k) p h = (p, tt)

in_keeps : (P : Fact) → Allows P → (n : ℕ) (ns : Names) (ts : Tokens) → EachToken P ts → EachToken P (named_in n ns ts)
in_keeps P a zero ns ts h = h
in_keeps P a (suc n) ns [] h = tt
in_keeps P a (suc n) ns (t ∷ ts) h =
    let x : Turn = turn_of ns t ts in
    each_append P x.out (named_in n x.names x.rest) (by_has P a ns t ts t.form h.0 h.1)
    (in_keeps P a n x.names x.rest (turn_left (EachToken P) (λ u us k. k.1) tt ns t ts h.1))

-- what holds of all tokens and of all that may be added holds of the tokens without names
pub named_keeps : (P : Fact) (ts : Tokens) → Allows P → EachToken P ts → EachToken P (named ts)
named_keeps P ts a h = in_keeps P a (length ts) beginning ts h
