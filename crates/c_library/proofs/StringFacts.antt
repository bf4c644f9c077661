-- What is known of units behind their literals.
use Rattle.std.proofs.Common.{◌≡◌, ◌<◌, ◌≤◌, ℕ, ◌%◌, ◌^◌, Bool, true, false, cond, List, [], ◌∷◌, ◌++◌, Option, Some}
use Rattle.std.proofs.Common.{None, refl, sym, ap, ap₂, subst, ◌∙◌, arith, mod-lt, length}
use Rattle.std.specs.Prelude.{Result, Ok, Err, is_none}
use Rattle.std.specs.Str.{bytes_eq}
use Rattle.c_tree.specs.declared.Form.{Form}
use Rattle.c_tree.specs.declared.Form.TheVariants as form
use Rattle.c_tree.specs.declared.Key.TheVariants as key
use Rattle.c_tree.specs.declared.Kind.TheVariants as kind
use Rattle.c_tree.specs.declared.Mark.TheVariants as mark
use Rattle.c_tree.specs.declared.Lexeme.{Lexeme}
use Rattle.c_lex.specs.Bytes.{Bytes}
use Rattle.c_lex.specs.Lexes.{Tokens}
use Rattle.c_lex.specs.Strings.{string_of, string_name}
use Rattle.c_library.specs.declared.place.Place.{Place}
use Rattle.c_library.specs.Arrays.{Known, none_known, and_known, declares, array, array_for, known_behind, arrays}
use Rattle.c_library.specs.Arrays.{with_strings}
use Rattle.c_library.specs.Initialisers.{beginning, past, initialises, value, listed, braces, stands_for, initialised}
use Rattle.c_library.specs.Literals.{has_no_literal}
use Rattle.c_library.specs.Places.{token, tokens}
use Rattle.c_library.specs.Within.{within}
use Rattle.c_library.proofs.Holds.{Fact, EachForm, EachToken, Allows, each_append}
use Rattle.c_library.proofs.LiteralForms.{both_hold, none_is}
use Rattle.c_library.proofs.Puts.{few_stay, within_is, within_few}

-- KNOWN LITERALS

array_same : (o : Option Bytes) (i : Bool) (f g : Known) (t : Lexeme) → ((w : Bytes) → f w ≡ g w)
    → array_for o i f t ≡ array_for o i g t
array_same (Some v) false f g t h = ap (λ (b : Bool). cond b [] (array t.offset v)) (h v)
array_same (Some v) true f g t h = refl
array_same None i f g t h = refl

known_same : (o : Option Bytes) (i : Bool) (f g : Known) → ((w : Bytes) → f w ≡ g w)
    → (w : Bytes) → known_behind o i f w ≡ known_behind o i g w
known_same (Some v) false f g h w = ap (λ (b : Bool). cond (bytes_eq v w) true b) (h w)
known_same (Some v) true f g h w = h w
known_same None i f g h w = h w

-- literals that are known the same way have the same arrays
pub arrays_same : (f g : Known) (p : Place) (ts : Tokens) → ((w : Bytes) → f w ≡ g w)
    → arrays f p ts ≡ arrays g p ts
arrays_same f g p [] h = refl
arrays_same f g p (t ∷ ts) h =
    ap₂ (λ (xs ys : Tokens). xs ++ ys) (array_same (string_of t.form) (initialises p ts) f g t h)
    (arrays_same (known_behind (string_of t.form) (initialises p ts) f)
    (known_behind (string_of t.form) (initialises p ts) g) (past t.form p) ts
    (known_same (string_of t.form) (initialises p ts) f g h))

-- WITHOUT LITERALS

no_array : (o : Option Bytes) (i : Bool) (known : Known) (t : Lexeme) → o ≡ None → array_for o i known t ≡ []
no_array None i known t e = refl
no_array (Some v) i known t e = absurd (cc)

no_list : (o : Option Bytes) (i : Bool) (t : Lexeme) → o ≡ None → stands_for o i t ≡ t ∷ []
no_list None i t e = refl
no_list (Some v) i t e = absurd (cc)

no_arrays : (known : Known) (p : Place) (ts : Tokens) → has_no_literal ts ≡ true → arrays known p ts ≡ []
no_arrays known p [] e = refl
no_arrays known p (t ∷ ts) e =
    let both = both_hold (is_none (string_of t.form)) (has_no_literal ts) e in
    ap₂ (λ (xs ys : Tokens). xs ++ ys)
    (no_array (string_of t.form) (initialises p ts) known t (none_is (string_of t.form) both.0))
    (no_arrays (known_behind (string_of t.form) (initialises p ts) known) (past t.form p) ts both.1)

all_stay : (p : Place) (ts : Tokens) → has_no_literal ts ≡ true → initialised p ts ≡ ts
all_stay p [] e = refl
all_stay p (t ∷ ts) e =
    let both = both_hold (is_none (string_of t.form)) (has_no_literal ts) e in
    ap₂ (λ (xs ys : Tokens). xs ++ ys)
    (no_list (string_of t.form) (initialises p ts) t (none_is (string_of t.form) both.0))
    (all_stay (past t.form p) ts both.1)

-- a unit without literals is its own, if it is small enough
pub strings_within : (most : ℕ) (ts : Tokens) → has_no_literal ts ≡ true → with_strings most ts ≡ within most ts
strings_within most ts e =
    ap₂ (λ (xs ys : Tokens). within most (xs ++ ys)) (no_arrays none_known beginning ts e) (all_stay beginning ts e)

-- and it is
pub strings_stay : (most : ℕ) (ts : Tokens) → has_no_literal ts ≡ true → length ts ≤ most
    → with_strings most ts ≡ Ok ts
strings_stay most ts e h = strings_within most ts e ∙ few_stay most ts h

-- FACTS

is_small : (b : ℕ) → b % 256 < 2 ^ 31
is_small b = let below : b % 256 < 256 = mod-lt b (omega arith) in omega arith

each_listed : (P : Fact) (at : ℕ) (v : Bytes) → Allows P → EachToken P (tokens at (listed v))
each_listed P at [] a = (a.number (0 % 256) kind.Int (is_small 0) refl, (a.mark mark.RightBrace, tt))
each_listed P at (b ∷ v) a =
    (a.number (b % 256) kind.Int (is_small b) refl, (a.mark mark.Comma, each_listed P at v a))

each_braces : (P : Fact) (at : ℕ) (v : Bytes) → Allows P → EachToken P (tokens at (braces v))
each_braces P at v a = (a.mark mark.LeftBrace, each_listed P at v a)

each_array : (P : Fact) (at : ℕ) (v : Bytes) → Allows P → EachToken P (array at v)
each_array P at v a =
    let first : EachToken P (tokens at (declares v)) = (
      a.key key.Char,
      (
        a.name (string_name v),
        (
          a.mark mark.LeftBracket,
          (
            a.mark mark.RightBracket,
            (a.mark mark.Assign, tt),
          ),
        ),
      ),
    ) in
    let last : EachToken P (tokens at (form.Mark mark.Semicolon ∷ [])) = (a.mark mark.Semicolon, tt) in
    each_append P (tokens at (declares v)) (tokens at (braces v) ++ tokens at (form.Mark mark.Semicolon ∷ [])) first
    (each_append P (tokens at (braces v)) (tokens at (form.Mark mark.Semicolon ∷ [])) (each_braces P at v a) last)

one_array : (P : Fact) (at : ℕ) (v : Bytes) (b : Bool) → Allows P → EachToken P (cond b [] (array at v))
one_array P at v true a = tt
one_array P at v false a = each_array P at v a

array_keeps : (P : Fact) (o : Option Bytes) (i : Bool) (known : Known) (t : Lexeme) → Allows P
    → EachToken P (array_for o i known t)
array_keeps P (Some v) false known t a = one_array P t.offset v (known v) a
array_keeps P (Some v) true known t a = tt
array_keeps P None i known t a = tt

arrays_keep : (P : Fact) (known : Known) (p : Place) (ts : Tokens) → Allows P → EachToken P (arrays known p ts)
arrays_keep P known p [] a = tt
arrays_keep P known p (t ∷ ts) a =
    each_append P (array_for (string_of t.form) (initialises p ts) known t)
    (arrays (known_behind (string_of t.form) (initialises p ts) known) (past t.form p) ts)
    (array_keeps P (string_of t.form) (initialises p ts) known t a)
    (arrays_keep P (known_behind (string_of t.form) (initialises p ts) known) (past t.form p) ts a)

token_keeps : (P : Fact) (o : Option Bytes) (i : Bool) (t : Lexeme) → Allows P → P t.form
    → EachToken P (stands_for o i t)
token_keeps P (Some v) true t a h = each_braces P t.offset v a
token_keeps P (Some v) false t a h = (h, tt)
token_keeps P None i t a h = (h, tt)

initialised_keeps : (P : Fact) (p : Place) (ts : Tokens) → Allows P → EachToken P ts → EachToken P (initialised p ts)
initialised_keeps P p [] a h = tt
initialised_keeps P p (t ∷ ts) a h =
    each_append P (stands_for (string_of t.form) (initialises p ts) t) (initialised (past t.form p) ts)
    (token_keeps P (string_of t.form) (initialises p ts) t a h.0) (initialised_keeps P (past t.form p) ts a h.1)

-- what holds of all tokens and of all that may be added holds of the unit without literals
pub strings_keep : (P : Fact) (most : ℕ) (ts us : Tokens) → Allows P → EachToken P ts → with_strings most ts ≡ Ok us
    → EachToken P us
strings_keep P most ts us a h e =
    subst (λ (xs : Tokens). EachToken P xs)
    (within_is most (arrays none_known beginning ts ++ initialised beginning ts) us e)
    (each_append P (arrays none_known beginning ts) (initialised beginning ts)
    (arrays_keep P none_known beginning ts a) (initialised_keeps P beginning ts a h))

-- and its tokens are as few as there may be
pub strings_few : (most : ℕ) (ts us : Tokens) → with_strings most ts ≡ Ok us → length us ≤ most
strings_few most ts us e = within_few most (arrays none_known beginning ts ++ initialised beginning ts) us e
