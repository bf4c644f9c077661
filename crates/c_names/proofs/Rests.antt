-- What holds of tokens, and still does where the first one goes, holds of those behind what is taken.
use Rattle.std.proofs.Common.{◌≤◌, ℕ, suc, Bool, true, false, cond, not, ◌&&◌, ◌||◌, List, [], ◌∷◌, ◌++◌, length}
use Rattle.std.proofs.Common.{Option, Some, None, arith}
use Rattle.std.specs.Prelude.{is_some}
use Rattle.c_tree.specs.declared.Form.{Form}
use Rattle.c_tree.specs.declared.Form.TheVariants as form
use Rattle.c_tree.specs.declared.Key.{Key}
use Rattle.c_tree.specs.declared.Key.TheVariants as key
use Rattle.c_tree.specs.declared.Kind.TheVariants as kind
use Rattle.c_tree.specs.declared.Lexeme.{Lexeme}
use Rattle.c_tree.specs.declared.Mark.TheVariants as mark
use Rattle.c_lex.specs.Bytes.{Bytes}
use Rattle.c_lex.specs.Lexes.{Tokens}
use Rattle.c_library.specs.Calls.{is_mark}
use Rattle.c_library.specs.Places.{token}
use Rattle.c_names.specs.declared.turn.Names.{Names}
use Rattle.c_names.specs.declared.value.Next.{Next}
use Rattle.c_names.specs.Pieces.{Pieces, none, int}
use Rattle.c_names.specs.Scope.{Scope, in_parens, is_own, is_free, declared, tag}
use Rattle.c_names.specs.Values.{first, enumerator}
use Rattle.c_names.specs.Words.{begins, words_of, words_from, size_of}
use Rattle.c_names.specs.Headers.{is_header}
use Rattle.c_names.specs.Enums.{Taken, ◌and_then◌, last, listed, list_behind, is_known, known, tagged, tag_behind}
use Rattle.c_names.specs.Enums.{name_behind, brace_behind, enum_by, enum_behind, names_from, words_named}
use Rattle.c_names.specs.Enums.{may_name, words_behind, enum_named, is_enum, enum_from, words_type, type_from}
use Rattle.c_names.specs.Enums.{typedef_behind}
use Rattle.c_names.specs.Turns.{Turn, turn, left, behind_first, plain, typedef_turn, sizeof_by, sizeof_type}
use Rattle.c_names.specs.Turns.{sizeof_turn, own_turn, header_turn, name_turn, key_turn, turn_by, turn_of, enum_turn}

-- a fact on tokens
abbrev pub OnTokens : Type 1
OnTokens = Tokens → Type 0

-- it still holds where the first one goes
abbrev pub Shrinks : OnTokens → Type 0
Shrinks Q = (t : Lexeme) (ts : Tokens) → Q (t ∷ ts) → Q ts

-- it holds of the tokens that are left
abbrev pub Left : OnTokens → Taken → Type 0
Left Q None = Unit {0}
Left Q (Some p) = Q p.1

either : (Q : OnTokens) (b : Bool) (x y : Taken) → Left Q x → Left Q y → Left Q (cond b x y)
either Q true x y h k = h
either Q false x y h k = k

goes_on : (Q : OnTokens) {A : Type 0} (m : Option A) (f : A → Taken) → ((x : A) → Left Q (f x)) → Left Q (m and_then f)
goes_on Q (Some x) f g = g x
goes_on Q None f g = tt

goes_behind : (Q : OnTokens) (m : Taken) (f : Scope × Tokens → Taken) → Left Q m
    → ((p : Scope × Tokens) → Q p.1 → Left Q (f p)) → Left Q (m and_then f)
goes_behind Q (Some p) f h g = g p h
goes_behind Q None f h g = tt

-- ENUMERATIONS

last_left : (Q : OnTokens) (es : Scope) (n : Next) (fs : List Form) (ts : Tokens) → Q ts → Left Q (last es n fs ts)
last_left Q es n [] ts h = h
last_left Q es n (f ∷ fs) ts h =
    goes_on Q (enumerator es n (f ∷ fs)) (λ (p : Scope × Next). Some (p.0, ts)) (λ p. h)

listed_left : (Q : OnTokens) → Shrinks Q → (es : Scope) (n : Next) (fs : List Form) (ts : Tokens) → Q ts
    → Left Q (listed es n fs ts)
listed_left Q s es n fs [] h = tt
listed_left Q s es n fs (t ∷ ts) h =
    let k : Q ts = s t ts h in
    let comma : Taken = enumerator es n fs and_then (λ (p : Scope × Next). listed p.0 p.1 [] ts) in
    let other : Taken = listed es n (fs ++ t.form ∷ []) ts in
    either Q (is_mark mark.RightBrace t.form) (last es n fs ts) (cond (is_mark mark.Comma t.form) comma other)
    (last_left Q es n fs ts k)
    (either Q (is_mark mark.Comma t.form) comma other
    (goes_on Q (enumerator es n fs) (λ (p : Scope × Next). listed p.0 p.1 [] ts)
    (λ p. listed_left Q s p.0 p.1 [] ts k))
    (listed_left Q s es n (fs ++ t.form ∷ []) ts k))

list_left : (Q : OnTokens) → Shrinks Q → (es : Scope) (ts : Tokens) → Q ts → Left Q (list_behind es ts)
list_left Q s es ts h =
    either Q (begins mark.RightBrace ts) None (listed es first [] ts) tt (listed_left Q s es first [] ts h)

known_left : (Q : OnTokens) (f : Form) (es : Scope) (ts : Tokens) → Q ts → Left Q (known f es ts)
known_left Q f es ts h = either Q (is_known f es) (Some (es, ts)) None h tt

tagged_left : (Q : OnTokens) → Shrinks Q → (f : Form) (es : Scope) (ts : Tokens) → Q ts → Left Q (tagged f es ts)
tagged_left Q s f es ts h =
    either Q (in_parens es || not (is_free f es)) None (list_behind (declared f int es) ts) tt
    (list_left Q s (declared f int es) ts h)

tag_left : (Q : OnTokens) → Shrinks Q → (f : Form) (es : Scope) (ts : Tokens) → Q ts → Left Q (tag_behind f es ts)
tag_left Q s f es [] h = known_left Q f es [] h
tag_left Q s f es (t ∷ ts) h =
    either Q (is_mark mark.LeftBrace t.form) (tagged f es ts) (known f es (t ∷ ts))
    (tagged_left Q s f es ts (s t ts h)) (known_left Q f es (t ∷ ts) h)

name_left : (Q : OnTokens) → Shrinks Q → (w : Bytes) (es : Scope) (ts : Tokens) → Q ts → Left Q (name_behind w es ts)
name_left Q s w es ts h =
    either Q (is_own w) (tag_behind (form.Name (tag w)) es ts) None (tag_left Q s (form.Name (tag w)) es ts h) tt

brace_left : (Q : OnTokens) → Shrinks Q → (es : Scope) (ts : Tokens) → Q ts → Left Q (brace_behind es ts)
brace_left Q s es ts h = either Q (in_parens es) None (list_behind es ts) tt (list_left Q s es ts h)

enum_by_left : (Q : OnTokens) → Shrinks Q → (es : Scope) (f : Form) (ts : Tokens) → Q ts → Left Q (enum_by es f ts)
enum_by_left Q s es (form.Name w) ts h = name_left Q s w es ts h
enum_by_left Q s es (form.Mark mark.LeftBrace) ts h = brace_left Q s es ts h
enum_by_left Q s es (form.Mark _) ts h = tt
enum_by_left Q s es (form.Key k) ts h = tt
enum_by_left Q s es (form.Number n k) ts h = tt
enum_by_left Q s es form.Include ts h = tt

enum_left : (Q : OnTokens) → Shrinks Q → (es : Scope) (ts : Tokens) → Q ts → Left Q (enum_behind es ts)
enum_left Q s es [] h = tt
enum_left Q s es (t ∷ ts) h = enum_by_left Q s es t.form ts (s t ts h)

-- NAMES OF TYPES

pick : (Q : OnTokens) (b : Bool) (x y : Pieces × Tokens) → Q x.1 → Q y.1 → Q (cond b x y).1
pick Q true x y h k = h
pick Q false x y h k = k

words_left : (Q : OnTokens) → Shrinks Q → (es : Scope) (ws : Pieces) (ts : Tokens) → Q ts → Q (words_from es ws ts).1
words_left Q s es ws [] h = h
words_left Q s es ws (t ∷ ts) h =
    pick Q (none (words_of es t.form ts)) (ws, t ∷ ts) (words_from es (ws ++ words_of es t.form ts) ts) h
    (words_left Q s es (ws ++ words_of es t.form ts) ts (s t ts h))

names_left : (Q : OnTokens) → Shrinks Q → (es : Scope) (ws : Pieces) (ts : Tokens) → Q ts
    → Left Q (names_from es ws ts)
names_left Q s es ws [] h = tt
names_left Q s es ws (n ∷ []) h = tt
names_left Q s es ws (n ∷ m ∷ ts) h =
    let k : Q ts = s m ts (s n (m ∷ ts) h) in
    let more : Taken = names_from (declared n.form ws es) ws ts in
    let end : Taken = cond (is_mark mark.Semicolon m.form) (Some (declared n.form ws es, ts)) None in
    either Q (not (may_name n.form ws es)) None (cond (is_mark mark.Comma m.form) more end) tt
    (either Q (is_mark mark.Comma m.form) more end (names_left Q s (declared n.form ws es) ws ts k)
    (either Q (is_mark mark.Semicolon m.form) (Some (declared n.form ws es, ts)) None k tt))

words_named_left : (Q : OnTokens) → Shrinks Q → (es : Scope) (p : Pieces × Tokens) → Q p.1 → Left Q (words_named es p)
words_named_left Q s es p h =
    either Q (is_some (size_of p.0)) (names_from es p.0 p.1) None (names_left Q s es p.0 p.1 h) tt

pick_type : (Q : OnTokens) (b : Bool) (x y : Option ℕ × Tokens) → Q x.1 → Q y.1 → Q (cond b x y).1
pick_type Q true x y h k = h
pick_type Q false x y h k = k

enum_from_left : (Q : OnTokens) → Shrinks Q → (es : Scope) (ts : Tokens) → Q ts → Q (enum_from es ts).1
enum_from_left Q s es [] h = h
enum_from_left Q s es (t ∷ ts) h = s t ts h

type_left : (Q : OnTokens) → Shrinks Q → (es : Scope) (ts : Tokens) → Q ts → Q (type_from es ts).1
type_left Q s es [] h = h
type_left Q s es (t ∷ ts) h =
    pick_type Q (is_enum t.form) (enum_from es ts) (words_type (words_from es [] (t ∷ ts)))
    (enum_from_left Q s es ts (s t ts h)) (words_left Q s es [] (t ∷ ts) h)

typedef_left : (Q : OnTokens) → Shrinks Q → (es : Scope) (ts : Tokens) → Q ts → Left Q (typedef_behind es ts)
typedef_left Q s es [] h = tt
typedef_left Q s es (t ∷ ts) h =
    either Q (is_enum t.form) (enum_named es ts) (words_behind es (t ∷ ts))
    (goes_behind Q (enum_behind es ts) (λ (p : Scope × Tokens). names_from p.0 int p.1)
    (enum_left Q s es ts (s t ts h)) (λ p k. names_left Q s p.0 int p.1 k))
    (words_named_left Q s es (words_from es [] (t ∷ ts)) (words_left Q s es [] (t ∷ ts) h))

-- TURNS

choose : (Q : OnTokens) (b : Bool) (x y : Turn) → Q x.rest → Q y.rest → Q (cond b x y).rest
choose Q true x y h k = h
choose Q false x y h k = k

first_left : (Q : OnTokens) → Shrinks Q → (ts : Tokens) → Q ts → Q (behind_first ts)
first_left Q s [] h = h
first_left Q s (t ∷ ts) h = s t ts h

typedef_turn_left : (Q : OnTokens) → Q [] → (t : Lexeme) (ts : Tokens) (m : Taken) → Left Q m
    → Q (typedef_turn t ts m).rest
typedef_turn_left Q e t ts None h = e
typedef_turn_left Q e t ts (Some p) h = h

enum_turn_left : (Q : OnTokens) → Shrinks Q → Q [] → (b : Bool) (t : Lexeme) (ts : Tokens) (m : Taken) → Left Q m
    → Q (enum_turn b t ts m).rest
enum_turn_left Q s e b t ts None h = e
enum_turn_left Q s e b t ts (Some p) h =
    choose Q (b && begins mark.Semicolon p.1) (turn [] true p.0 (behind_first p.1))
    (turn (token t.offset (form.Key key.Int) ∷ []) false p.0 p.1) (first_left Q s p.1 h) h

sizeof_by_left : (Q : OnTokens) → Shrinks Q → (ns : Names) (t : Lexeme) (ts : Tokens) (o : Option ℕ) (rest : Tokens)
    → Q ts → Q rest → Q (sizeof_by ns t ts o rest).rest
sizeof_by_left Q s ns t ts None rest h k = h
sizeof_by_left Q s ns t ts (Some n) rest h k =
    choose Q (begins mark.RightParen rest)
    (turn (token t.offset (form.Number n kind.ULong) ∷ []) false ns.scope (behind_first rest)) (plain ns t ts)
    (first_left Q s rest k) h

sizeof_left : (Q : OnTokens) → Shrinks Q → (ns : Names) (t : Lexeme) (ts : Tokens) → Q ts
    → Q (sizeof_turn ns t ts).rest
sizeof_left Q s ns t ts h =
    let p : Option ℕ × Tokens = type_from ns.scope (behind_first ts) in
    choose Q (begins mark.LeftParen ts) (sizeof_type ns t ts p) (plain ns t ts)
    (sizeof_by_left Q s ns t ts p.0 p.1 h (type_left Q s ns.scope (behind_first ts) (first_left Q s ts h)))
    h

key_left : (Q : OnTokens) → Shrinks Q → Q [] → (ns : Names) (t : Lexeme) (ts : Tokens) (k : Key) → Q ts
    → Q (key_turn ns t ts k).rest
key_left Q s e ns t ts key.Typedef h =
    choose Q (ns.starts && not (in_parens ns.scope)) (typedef_turn t ts (typedef_behind ns.scope ts)) (left t ts)
    (typedef_turn_left Q e t ts (typedef_behind ns.scope ts) (typedef_left Q s ns.scope ts h)) e
key_left Q s e ns t ts key.Enum h =
    enum_turn_left Q s e ns.starts t ts (enum_behind ns.scope ts) (enum_left Q s ns.scope ts h)
key_left Q s e ns t ts key.Sizeof h = sizeof_left Q s ns t ts h
key_left Q s e ns t ts _ h = h

name_turn_left : (Q : OnTokens) (es : Scope) (t : Lexeme) (ts : Tokens) (w : Bytes) → Q ts
    → Q (name_turn es t ts w).rest
name_turn_left Q es t ts w h = choose Q (is_header w) (header_turn es t ts w) (own_turn es t ts w) h h

by_left : (Q : OnTokens) → Shrinks Q → Q [] → (ns : Names) (t : Lexeme) (ts : Tokens) (f : Form) → Q ts
    → Q (turn_by ns t ts f).rest
by_left Q s e ns t ts (form.Key k) h = key_left Q s e ns t ts k h
by_left Q s e ns t ts (form.Name w) h = name_turn_left Q ns.scope t ts w h
by_left Q s e ns t ts (form.Mark m) h = h
by_left Q s e ns t ts form.Include h = h
by_left Q s e ns t ts (form.Number n k) h = h

-- so it holds of the tokens behind the first ones, if it holds of none
pub turn_left : (Q : OnTokens) → Shrinks Q → Q [] → (ns : Names) (t : Lexeme) (ts : Tokens) → Q ts
    → Q (turn_of ns t ts).rest
turn_left Q s e ns t ts h = by_left Q s e ns t ts t.form h

fewer : (k n : ℕ) → suc k ≤ n → k ≤ n
fewer k n h = omega arith

-- no more are left than there were behind the first one
pub few_left : (ns : Names) (t : Lexeme) (ts : Tokens) → length (turn_of ns t ts).rest ≤ length ts
few_left ns t ts =
    turn_left (λ (xs : Tokens). length xs ≤ length ts) (λ u us h. fewer (length us) (length ts) h) (omega arith) ns t ts
    (omega arith)
