-- What is known of units behind the keywords of their declarations.
use Rattle.std.proofs.Common.{◌≡◌, ◌≤◌, length, ℕ, Bool, true, false, cond, not, nat_eq, ◌&&◌, ◌||◌, [], ◌∷◌}
use Rattle.std.proofs.Common.{refl, ap, subst, ◌∙◌}
use Rattle.std.specs.Prelude.{nat_le, Ok}
use Rattle.std.proofs.lemmas.Bool.{eqb-true, false≢true}
use Rattle.c_lex.specs.Lexes.{Tokens}
use Rattle.c_library.specs.Within.{within}
use Rattle.c_library.proofs.Puts.{few_stay}
use Rattle.c_library.proofs.Holds.{Fact, EachToken, Allows}
use Rattle.c_words.specs.Guards as g
use Rattle.c_words.specs.Keys.{number}
use Rattle.c_words.specs.Ordered.{ordered}
use Rattle.c_words.specs.Pointers.{without_pointers}
use Rattle.c_words.specs.Unworded.{may_be_behind, is_unchanged, has_no_words}
use Rattle.c_words.specs.Worded.{worded}
use Rattle.c_words.proofs.KeepFacts.{ordered_keep, without_keep, guarded_keep}
use Rattle.c_words.proofs.StayFacts.{and_left, and_right, ordered_stays, pointers_stays}

-- the number of `const` is not one of a type's words
other_number : (n : ℕ) (m : Bool) → n ≡ 9
    → (not (not (nat_eq n 0)) || ((not (nat_eq n 0) && nat_le n 8) && m)) ≡ true → false ≡ true
other_number n m e h =
    by m (subst (λ (k : ℕ). (not (not (nat_eq k 0)) || ((not (nat_eq k 0) && nat_le k 8) && m)) ≡ true) e h)
  where
    by : (b : Bool) → (false || (false && b)) ≡ true → false ≡ true
    by true k = k
    by false k = k

not_const : (n : ℕ) (m : Bool)
    → (not (not (nat_eq n 0)) || ((not (nat_eq n 0) && nat_le n 8) && m)) ≡ true → nat_eq n 9 ≡ false
not_const n m h = by (nat_eq n 9) refl
  where
    by : (b : Bool) → nat_eq n 9 ≡ b → b ≡ false
    by true e = absurd (false≢true (other_number n m (eqb-true n 9 e) h))
    by false e = refl

-- in a unit that has the words of the grammar alone no object is const
no_const : (ts : Tokens) → has_no_words ts ≡ true → g.has_const ts ≡ false
no_const [] e = refl
no_const (t ∷ ts) e =
    ap (λ (b : Bool). b || g.has_const ts)
    (not_const (number t.form) (may_be_behind t.form ts) (and_left (is_unchanged t.form ts) (has_no_words ts) e))
    ∙ none (g.has_const ts) (no_const ts (and_right (is_unchanged t.form ts) (has_no_words ts) e))
  where
    none : (b : Bool) → b ≡ false → (false || b) ≡ false
    none true h = h
    none false h = refl

guarded_stays : (ts : Tokens) → has_no_words ts ≡ true → g.guarded ts ≡ ts
guarded_stays ts e = ap (λ (b : Bool). cond b (g.guarded_from g.start ts) ts) (no_const ts e)

-- such a unit is its own
pub worded_stays : (ts : Tokens) → has_no_words ts ≡ true → worded ts ≡ ts
worded_stays ts e =
    ap (λ (us : Tokens). without_pointers (ordered us)) (guarded_stays ts e)
    ∙ ap (λ (us : Tokens). without_pointers us) (ordered_stays ts e)
    ∙ pointers_stays ts e

pub unit_stays : (most : ℕ) (ts : Tokens) → has_no_words ts ≡ true → length ts ≤ most
    → within most (worded ts) ≡ Ok ts
unit_stays most ts e h = ap (λ (us : Tokens). within most us) (worded_stays ts e) ∙ few_stay most ts h

-- what holds of each token of a unit, and of all that may be added, holds of each token behind the pass
pub worded_keeps : (P : Fact) (ts : Tokens) → Allows P → EachToken P ts → EachToken P (worded ts)
worded_keeps P ts a h =
    without_keep P (ordered (g.guarded ts)) a (ordered_keep P (g.guarded ts) a (guarded_keep P ts a h))
