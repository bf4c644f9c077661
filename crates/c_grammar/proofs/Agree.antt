-- Lists of tokens that agree up to a token, and where an outcome of the model lands on them.
use Rattle.std.proofs.Common.{◌≡◌, ℕ, ◌≤◌, Bool, true, false, cond, ◌||◌, leb, [], ◌∷◌, ◌++◌}
use Rattle.std.proofs.Common.{length, Ok, Err, refl, sym, ap, ◌∙◌, append_assoc, arith}
use Rattle.std.proofs.Common.{length-append}
use Rattle.std.proofs.lemmas.Bool.{le-leb, false≢true}
use Rattle.c_tree.specs.declared.token.Lexeme.{Lexeme}
use Rattle.c_tree.specs.declared.token.Form.{Form}
use Rattle.c_tree.specs.declared.token.Mark.{Mark}
use Rattle.c_tree.specs.declared.token.Key.{Key}
use Rattle.c_grammar.specs.Tokens.{Tokens, token, punct, word, May, within}
use Rattle.c_grammar.specs.Places.{before}
use Rattle.c_grammar.specs.inside.Parsing.{Stop, Out, and_then, too_deep, tail, offset_of, first, is_next}
use Rattle.c_grammar.specs.inside.Parsing.{is_word, expect}
use Rattle.c_grammar.proofs.Numbers.{mark_is, key_is}

-- ---- cases

-- What holds of both legs of a choice, each where the test leads to it, holds of the choice.
pub split_if : {A : Type 0} (P : A → Type 0) (b : Bool) (x y : A) → (b ≡ true → P x)
    → (b ≡ false → P y) → P (cond b x y)
split_if P true x y p q = p refl
split_if P false x y p q = q refl

-- A choice whose test is true is its first leg.
pub if_true : {A : Type 0} (b : Bool) (x y : A) → b ≡ true → cond b x y ≡ x
if_true true x y e = refl
if_true false x y e = absurd (false≢true e)

-- A choice whose test is false is its second leg.
pub if_false : {A : Type 0} (b : Bool) (x y : A) → b ≡ false → cond b x y ≡ y
if_false true x y e = absurd (false≢true (sym e))
if_false false x y e = refl

-- a test that cannot hold is false
pub is_false : (b : Bool) → (b ≡ true → ⊥) → b ≡ false
is_false true h = absurd (h refl)
is_false false h = refl

-- What is at most a number is at most each larger one.
pub trans_le : {a b c : ℕ} → a ≤ b → b ≤ c → a ≤ c
trans_le p q = omega arith

pub or_left : (a b : Bool) → a ≡ true → a || b ≡ true
or_left true b e = refl
or_left false b e = absurd (false≢true e)

or_right : (a b : Bool) → b ≡ true → a || b ≡ true
or_right true b e = refl
or_right false b e = e

-- ---- first tokens

-- A punctuator that is found to be next stands at the front.
pub next_is : (k : Mark) (ts : Tokens) → is_next k ts ≡ true → ts ≡ punct (offset_of ts) k ∷ tail ts
next_is k [] e = absurd (false≢true e)
next_is k (t ∷ ts) e = ap (λ (f : Form). token t.offset f ∷ ts) (mark_is k t.form e)

-- tokens that begin with a keyword are this keyword and what stands behind it
pub word_is : (k : Key) (ts : Tokens) → is_word k ts ≡ true → ts ≡ word (offset_of ts) k ∷ tail ts
word_is k [] e = absurd (false≢true e)
word_is k (t ∷ ts) e = ap (λ (f : Form). token t.offset f ∷ ts) (key_is k t.form e)

-- the tokens behind the first are no more than all
pub tail_short : (ts : Tokens) → length (tail ts) ≤ length ts
tail_short [] = omega arith
tail_short (t ∷ ts) = omega arith

-- two classes of forms that share none
pub apart : (p q : Form → Bool) → ((f : Form) → p f ≡ true → q f ≡ true → ⊥) → (ts : Tokens)
    → first p ts ≡ true → first q ts ≡ false
apart p q h [] e = absurd (false≢true e)
apart p q h (t ∷ ts) e = is_false (q t.form) (h t.form e)

-- ---- what puts a list in front

-- a function that puts some tokens in front of others
pub record Way (put : Tokens → Tokens) : Type 0 where
  pub front : Tokens
  pub law : (x : Tokens) → put x ≡ front ++ x

-- Putting nothing before tokens is a way.
pub stay : Way (λ x. x)
stay = record { front = []; law = λ x. refl }

-- putting one token in front is a way
pub one : (l : Lexeme) → Way (λ x. l ∷ x)
one l = record { front = l ∷ []; law = λ x. refl }

-- putting in front twice is a way
pub both : {p q : Tokens → Tokens} → Way p → Way q → Way (λ x. p (q x))
both {p} a b = record {
  front = a.front ++ b.front;
  law = λ x. ap p (b.law x) ∙ a.law (b.front ++ x)
      ∙ sym (append_assoc a.front b.front x);
}

-- what a way is put in front of is no longer than the whole
pub behind : (put : Tokens → Tokens) → Way put → (ts rest : Tokens) → ts ≡ put rest
    → length rest ≤ length ts
behind put w ts rest e = omega (arith, ap length (e ∙ w.law rest), length-append w.front rest)

-- a function of tokens leaves them as many at least
abbrev pub Grows : (Tokens → Tokens) → Type 0
Grows f = (x : Tokens) → length x ≤ length (f x)

-- the token that may not open a depth is kept
abbrev pub Held : Bool → Tokens → (Tokens → Tokens) → Type 0
Held false rest more = Unit {0}
Held true rest more = (t : Lexeme) × (o : Tokens) × (more' : Tokens → Tokens) × (rest ≡ t ∷ o)
    × ((x : Tokens) → more x ≡ t ∷ more' x)

-- what keeps a token does so with more put behind
pub held_after : (b : Bool) (rest : Tokens) (more after : Tokens → Tokens) → Held b rest more
    → Held b rest (λ x. more (after x))
held_after false rest more after h = tt
held_after true rest more after h = (h.0, h.1, λ x. h.2 (after x), h.3, λ x. h.4 (after x))

-- ---- tests of openers

-- a test lets every opener within a depth pass
abbrev pub Opens : ℕ → May → Type 0
Opens m may = (q : Tokens) (d : ℕ) → within m q d ≡ true → may q d ≡ true

-- what may stand before some tokens lets every opener within the depth pass
pub opens : (m : ℕ) (tail' : Tokens) → Opens m (before m tail')
opens m tail' q d e = or_right (leb (length q) (length tail')) (leb d m) e

-- every opener from here on is free
abbrev pub Frees : Tokens → May → Type 0
Frees rest may = (q : Tokens) (d : ℕ) → length q ≤ length rest → may q d ≡ true

-- before tokens that were put in front, every opener from the tokens behind on is free
pub frees_after : (m : ℕ) (more : Tokens → Tokens) → Grows more → (u : Tokens)
    → Frees u (before m (more u))
frees_after m more grow u q d le = or_left (leb (length q) (length (more u))) (leb d m)
    (le-leb _ _ (trans_le le (grow u)))

-- before some tokens, every opener among them is free
pub frees_all : (m : ℕ) (u : Tokens) → Frees u (before m u)
frees_all m u = frees_after m (λ u. u) (λ u. omega arith) u

-- ---- lists that agree

-- where an outcome leaves off
abbrev pub place : {A : Type 0} → Out A → Tokens
place (Ok p) = p.1
place (Err s) = s.rest

module _ (cut : Bool) (g g' : Tokens) where
  -- The first list agrees with the second up to its end, or up to a last token, behind which stand
  -- g and g'.
  pub data Tied : Tokens → Tokens → Type 0 where
    end : cut ≡ false → Tied [] []
    at_cut : (t : Lexeme) → cut ≡ true → Tied (t ∷ g) (t ∷ g')
    alike : (t : Lexeme) {ts ts' : Tokens} → Tied ts ts' → Tied (t ∷ ts) (t ∷ ts')

  -- what holds of a first token before tied tokens, and of one before the cut, holds of a tied list
  pub head_step : (P : Tokens → Type 0) {x : Lexeme} {r' ts : Tokens} → Tied ts (x ∷ r')
      → ((r : Tokens) → Tied r r' → P (x ∷ r)) → (cut ≡ true → P (x ∷ g)) → P ts
  head_step P (at_cut t c) p q = q c
  head_step P (alike t x) p q = p _ x

  -- Tied lists of tokens have the same first token, as far as a test of its form sees.
  pub tied_first : (p : Form → Bool) {ts ts' : Tokens} → Tied ts ts' → first p ts ≡ first p ts'
  tied_first p (end c) = refl
  tied_first p (at_cut t c) = refl
  tied_first p (alike t u) = refl

  -- an outcome that stops behind the last token that agrees
  pub record Brief {A : Type 0} (out : Out A) : Type 0 where
    pub le : length (place out) ≤ length g

  -- An answer is brief where what is left is no longer than the shared rest.
  pub fine : {A : Type 0} {x : A} {r : Tokens} → length r ≤ length g → Brief (Ok (x, r))
  fine l = record { le = l }

  pub failed : {A : Type 0} {s : Stop} → length (s.rest) ≤ length g → Brief {A = A} (Err s)
  failed l = record { le = l }

  abbrev pub Shorts : {A B : Type 0} → (A → Tokens → Out B) → Type 0
  Shorts {A} f = (a : A) (r : Tokens) → length r ≤ length g → Brief (f a r)

  -- what is brief stays brief when a further part follows that is
  pub short_then : {A B : Type 0} (out : Out A) (f : A → Tokens → Out B) → Brief out → Shorts f
      → Brief (and_then out f)
  short_then (Ok p) f l h = h p.0 p.1 l.le
  short_then (Err s) f l h = failed l.le

  -- a choice of two brief outcomes is brief
  pub short_if : {A : Type 0} (b : Bool) (x y : Out A) → Brief x → Brief y → Brief (cond b x y)
  short_if b x y p q = split_if (λ o. Brief o) b x y (λ _. p) (λ _. q)

  -- a mark that is wanted leaves brief what follows it
  pub short_expect : {B : Type 0} (x : Mark) (ts : Tokens) (f : ℕ → Tokens → Out B)
      → length ts ≤ length g → Shorts f → Brief (and_then (expect x ts) f)
  short_expect x ts f l h = short_then (expect x ts) f
      (short_if (is_next x ts) _ _ (fine (omega (arith, tail_short ts, l))) (failed l)) h

  module _ (may : May) (m : ℕ) where
    -- an outcome that is the one wanted, or stops behind the cut, or at an opener that is too deep
    pub data Lands {A : Type 0} (out : Out A) (want : Tokens → Out A) (to' : Tokens) : Type 0 where
      good : (to : Tokens) → Tied to to' → out ≡ want to → Lands out want to'
      past : cut ≡ true → Brief out → Lands out want to'
      deep : (q q' : Tokens) (d : ℕ) → Tied q q' → out ≡ too_deep q → may q' d ≡ true
          → leb d m ≡ false → Lands out want to'

    -- What lands by an answer lands by each equal one.
    pub lands_by : {A : Type 0} {out out' : Out A} {want : Tokens → Out A} {to' : Tokens}
        → out ≡ out' → Lands out' want to' → Lands out want to'
    lands_by e (good to t e') = good to t (e ∙ e')
    lands_by e (past c l) = past c (record {
      le = omega
          (arith, l.le, ap (λ o. length (place o)) e);
    })
    lands_by e (deep q q' d t e' y l) = deep q q' d t (e ∙ e') y l

    -- two parts, one behind the other, land where the second does
    pub bind_lands : {A B : Type 0} (a : A) (out : Out A) (f : A → Tokens → Out B)
        (want : Tokens → Out B) (mid' to' : Tokens) → Lands out (λ to. Ok (a, to)) mid' → Shorts f
        → ((mid : Tokens) → Tied mid mid' → out ≡ Ok (a, mid) → Lands (f a mid) want to')
        → Lands (and_then out f) want to'
    bind_lands a out f want mid' to' (good mid t e) s h =
        lands_by (ap (λ o. and_then o f) e) (h mid t e)
    bind_lands a out f want mid' to' (past c l) s h = past c (short_then out f l s)
    bind_lands a out f want mid' to' (deep q q' d t e y l) s h =
        deep q q' d t (ap (λ o. and_then o f) e) y l
