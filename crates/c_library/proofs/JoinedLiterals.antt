-- Literals side by side, joined one after another.
use Rattle.std.proofs.Common.{◌≡◌, ℕ, true, [], ◌∷◌, ◌++◌, Option, Some, None, refl, sym, ap, ◌∙◌, append_assoc}
use Rattle.std.specs.Prelude.{is_none}
use Rattle.c_tree.specs.declared.Lexeme.{Lexeme}
use Rattle.c_lex.specs.Bytes.{Bytes}
use Rattle.c_lex.specs.Lexes.{Tokens}
use Rattle.c_lex.specs.Strings.{string_of, string_name}
use Rattle.c_library.specs.Joined.{literal, joined_by, before, joined}
use Rattle.c_library.specs.Literals.{has_no_literal}
use Rattle.c_library.proofs.LiteralForms.{both_hold, none_is}
use Rattle.c_library.proofs.Holds.{Fact, EachToken, Allows}

-- another token stays before others
stays_before : (t : Lexeme) (us : Tokens) → string_of t.form ≡ None → before t us ≡ t ∷ us
stays_before t [] e = refl
stays_before t (u ∷ us) e = ap (λ (o : Option Bytes). joined_by o (string_of u.form) t u us) e

-- a token that is no literal stays
pub stays : (t : Lexeme) (ts : Tokens) → string_of t.form ≡ None → joined (t ∷ ts) ≡ t ∷ joined ts
stays t ts e = stays_before t (joined ts) e

-- a literal ends where the next token is none
pub run_ends : (at : ℕ) (v : Bytes) (t : Lexeme) (ts : Tokens) → string_of t.form ≡ None
    → joined (literal at v ∷ t ∷ ts) ≡ literal at v ∷ joined (t ∷ ts)
run_ends at v t ts e =
    ap (before (literal at v)) (stays t ts e)
    ∙ ap (λ (o : Option Bytes). joined_by (Some v) o (literal at v) t (joined ts)) e
    ∙ ap (λ (us : Tokens). literal at v ∷ us) (sym (stays t ts e))

run_by : (at : ℕ) (v w : Bytes) (t u : Lexeme) (us : Tokens) (o : Option Bytes) → string_of t.form ≡ Some w
    → before (literal at v) (joined_by (Some w) o t u us)
    ≡ joined_by (Some (v ++ w)) o (literal at (v ++ w)) u us
run_by at v w t u us None e = ap (λ (o : Option Bytes). joined_by (Some v) o (literal at v) t (u ∷ us)) e
run_by at v w t u us (Some x) e = ap (λ (xs : Bytes). literal at xs ∷ us) (sym (append_assoc v w x))

run_before : (at : ℕ) (v w : Bytes) (t : Lexeme) (us : Tokens) → string_of t.form ≡ Some w
    → before (literal at v) (before t us) ≡ before (literal at (v ++ w)) us
run_before at v w t [] e = ap (λ (o : Option Bytes). joined_by (Some v) o (literal at v) t []) e
run_before at v w t (u ∷ us) e =
    ap (λ (o : Option Bytes). before (literal at v) (joined_by o (string_of u.form) t u us)) e
    ∙ run_by at v w t u us (string_of u.form) e

-- a literal takes in the next one
pub run_goes : (at : ℕ) (v w : Bytes) (t : Lexeme) (ts : Tokens) → string_of t.form ≡ Some w
    → joined (literal at v ∷ t ∷ ts) ≡ joined (literal at (v ++ w) ∷ ts)
run_goes at v w t ts e = run_before at v w t (joined ts) e

-- tokens without literals stay
pub joined_stays : (ts : Tokens) → has_no_literal ts ≡ true → joined ts ≡ ts
joined_stays [] e = refl
joined_stays (t ∷ ts) e =
    let both = both_hold (is_none (string_of t.form)) (has_no_literal ts) e in
    stays t ts (none_is (string_of t.form) both.0) ∙ ap (λ (us : Tokens). t ∷ us) (joined_stays ts both.1)

-- FACTS

join_keeps : (P : Fact) (o q : Option Bytes) (t u : Lexeme) (us : Tokens) → Allows P → P t.form → P u.form
    → EachToken P us → EachToken P (joined_by o q t u us)
join_keeps P (Some v) (Some w) t u us a h k l = (a.name (string_name (v ++ w)), l)
join_keeps P (Some v) None t u us a h k l = (h, (k, l))
join_keeps P None q t u us a h k l = (h, (k, l))

before_keeps : (P : Fact) (t : Lexeme) (us : Tokens) → Allows P → P t.form → EachToken P us
    → EachToken P (before t us)
before_keeps P t [] a h k = (h, k)
before_keeps P t (u ∷ us) a h k = join_keeps P (string_of t.form) (string_of u.form) t u us a h k.0 k.1

-- what holds of all tokens and of all that may be added holds of the joined ones
pub joined_keeps : (P : Fact) (ts : Tokens) → Allows P → EachToken P ts → EachToken P (joined ts)
joined_keeps P [] a h = h
joined_keeps P (t ∷ ts) a h = before_keeps P t (joined ts) a h.0 (joined_keeps P ts a h.1)
