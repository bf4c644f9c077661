-- Pieces of a parser, and how they go together.
use Rattle.std.proofs.Common.{◌≡◌, ℕ, ◌≤◌, Bool, true, false, cond, ◌∷◌, length, Ok, Err, refl, ap, ◌∙◌}
use Rattle.std.proofs.Common.{subst, arith}
use Rattle.c_tree.specs.declared.token.Lexeme.{Lexeme}
use Rattle.c_tree.specs.declared.token.Form.{Form}
use Rattle.c_grammar.specs.Tokens.{Tokens, May}
use Rattle.c_grammar.specs.Places.{before}
use Rattle.c_grammar.specs.inside.Parsing.{Stop, Out, and_then, tail, first}
use Rattle.c_grammar.proofs.Agree.{split_if, if_true, if_false, trans_le, Way, stay, one, both, behind}
use Rattle.c_grammar.proofs.Agree.{Grows, Held, held_after, Opens, opens, Frees, frees_after, place}
use Rattle.c_grammar.proofs.Agree.{Tied, tied_first, Lands, good, past, deep, lands_by}

-- what a part of the grammar spells: a thing, from some tokens up to others, with a test of what may open
abbrev pub Rel : Type 0 → Type 1
Rel X = May → X → Tokens → Tokens → Type 0

-- what was read may be followed by anything, and may stand under any test that lets pass what the
-- limit does
pub record Front {X : Type 0} (R : Rel X) (m : ℕ) (x : X) (f t : Tokens) : Type 0 where
  pub put : Tokens → Tokens
  pub way : Way put
  pub is : f ≡ put t
  pub again : (may : May) → Opens m may → (u : Tokens) → R may x (put u) u

-- what was read before a stop can be completed
pub record Open {X : Type 0} (R : Rel X) (m : ℕ) (ts : Tokens) (s : Stop) : Type 0 where
  pub put : Tokens → Tokens
  pub way : Way put
  pub is : ts ≡ put s.rest
  pub more : Tokens → Tokens
  pub grows : Grows more
  pub held : Held s.deep s.rest more
  pub completes : (u : Tokens) → (x : X) × R (before m (more u)) x (put (more u)) u

-- what a part reads is spelled so, and where it stops it was still going on with what is spelled
pub data Sound {X A : Type 0} (tree : X → A) (R : Rel X) (Kept : X → Tokens → Type 0) (m : ℕ) (ts : Tokens) : Out A
    → Type 0 where
  read : (x : X) (t : Tokens) → Front R m x ts t → Kept x t
      → Sound tree R Kept m ts (Ok (tree x, t))
  stuck : (s : Stop) → Open R m ts s → Sound tree R Kept m ts (Err s)

-- what is spelled so is read, on every list of tokens that agrees with the spelling
abbrev pub Complete : {X A : Type 0} → (X → A) → Rel X → (X → Tokens → Type 0) → ℕ
    → (Tokens → Out A) → Type 0
Complete {X} {A} tree R Ends m run =
    (cut : Bool) (g g' : Tokens) (may : May) (x : X) (f' t' : Tokens) → R may x f' t' → Ends x t'
    → (f : Tokens) → Tied cut g g' f f'
    → Lands cut g g' may m (run f) (λ to. Ok (tree x, to)) t'

-- there is a shortest phrase
abbrev pub Least : {X : Type 0} → Rel X → (Tokens → Tokens) → Type 0
Least {X} R after = (may : May) (t : Tokens) → Frees t may → Frees (after t) may
    → (x : X) × R may x (after t) t

-- one part and another one behind it, which may look at the first
abbrev pub Then : {X Y : Type 0} → Rel X → (X → Rel Y) → Rel Y
Then {X} {Y} R S may y f t = (x : X) × (u : Tokens) × R may x f u × S x may y u t

-- an end without a condition
abbrev pub always : {X : Type 0} → X → Tokens → Type 0
always x t = Unit {0}

-- tokens without a condition
abbrev pub any : Tokens → Type 0
any ts = Unit {0}

-- the tree of a thing that is its own tree
abbrev pub same_tree : {X : Type 0} → X → X
same_tree x = x

-- what is wanted of a part of the parser, at once
pub record Piece {X A : Type 0} (tree : X → A) (R : Rel X) (Given : Tokens → Type 0) (Kept Ends : X → Tokens → Type 0)
    (after : Tokens → Tokens) (m : ℕ) (run : Tokens → Out A) : Type 0 where
  pub grow : Grows after
  pub least : Least R after
  pub sound : (ts : Tokens) → Given ts → Sound tree R Kept m ts (run ts)
  pub complete : Complete tree R Ends m run

module _ {X A : Type 0} (tree : X → A) (R : Rel X) (Kept : X → Tokens → Type 0) (m : ℕ) where
  -- A sound answer stands at no more tokens than there were.
  pub sound_short : (ts : Tokens) (out : Out A) → Sound tree R Kept m ts out
      → length (place out) ≤ length ts
  sound_short ts _ (read x t a k) = behind a.put a.way ts t a.is
  sound_short ts _ (stuck s o) = behind o.put o.way ts s.rest o.is

-- ---- one part and then another

module _ {X A Y B : Type 0} (tree : X → A) (tree' : Y → B) (R : Rel X) (S : X → Rel Y) (Kept : X → Tokens → Type 0)
    (Kept' : Y → Tokens → Type 0) (m : ℕ) where
  -- a stop in the second part
  open_second : (ts u : Tokens) (x : X) (s : Stop) → Front R m x ts u → Open (S x) m u s
      → Open (Then R S) m ts s
  open_second ts u x s a o =
      record {
        put = λ v. a.put (o.put v);
        way = both a.way o.way;
        is = a.is ∙ ap a.put o.is;
        more = o.more;
        grows = o.grows;
        held = o.held;
        completes =
            λ v. let c = o.completes v in (
              c.0,
              (x, o.put (o.more v), a.again (before m (o.more v)) (opens m (o.more v)) _, c.1),
            );
      }

  -- a stop in the first part: the second one is completed by its shortest text
  open_first : (ts : Tokens) (s : Stop) (after : Tokens → Tokens) → Grows after
      → ((x : X) → Least (S x) after) → Open R m ts s → Open (Then R S) m ts s
  open_first ts s after grow least o =
      record {
        put = o.put;
        way = o.way;
        is = o.is;
        more = λ v. o.more (after v);
        grows = λ v. trans_le (grow v) (o.grows (after v));
        held = held_after s.deep s.rest o.more after o.held;
        completes = λ v.
            let c = o.completes (after v) in
            let l = least c.0 (before m (o.more (after v))) v
            (frees_after m (λ w. o.more (after w)) (λ w. trans_le (grow w) (o.grows (after w))) v)
            (frees_after m o.more o.grows (after v)) in
            (l.0, (c.0, after v, c.1, l.1));
      }

  -- two parts, one behind the other, are sound where each is
  pub seq_sound : (ts : Tokens) (out : Out A) (f : A → Tokens → Out B) (after : Tokens → Tokens)
      → Grows after → ((x : X) → Least (S x) after) → Sound tree R Kept m ts out
      → ((x : X) (u : Tokens) → Kept x u → Sound tree' (S x) Kept' m u (f (tree x) u))
      → Sound tree' (Then R S) Kept' m ts (and_then out f)
  seq_sound ts _ f after grow least (stuck s o) k = stuck s (open_first ts s after grow least o)
  seq_sound ts _ f after grow least (read x u a kept) k = second (f (tree x) u) (k x u kept)
    where
      second : (out : Out B) → Sound tree' (S x) Kept' m u out
          → Sound tree' (Then R S) Kept' m ts out
      second _ (stuck s o) = stuck s (open_second ts u x s a o)
      second _ (read y t b kept') =
          read y t (record {
            put = λ v. a.put (b.put v);
            way = both a.way b.way;
            is = a.is
                ∙ ap a.put b.is;
            again = λ may w v. (x, b.put v, a.again may w _, b.again may w v);
          })
          kept'

  seq_short : (ts : Tokens) (out : Out A) (f : A → Tokens → Out B) → Sound tree R Kept m ts out
      → ((x : X) (u : Tokens) → Kept x u → Sound tree' (S x) Kept' m u (f (tree x) u))
      → length (place (and_then out f)) ≤ length (place out)
  seq_short ts _ f (stuck s o) k = omega arith
  seq_short ts _ f (read x u a kept) k = sound_short tree' (S x) Kept' m u (f (tree x) u)
      (k x u kept)

  seq_complete : (Ends : X → Tokens → Type 0) (Ends' : Y → Tokens → Type 0) (run : Tokens → Out A)
      (f : A → Tokens → Out B) → ((ts : Tokens) → Sound tree R Kept m ts (run ts))
      → ((x : X) (u : Tokens) → Kept x u → Sound tree' (S x) Kept' m u (f (tree x) u))
      → ((may : May) (x : X) (y : Y) (u t : Tokens) → S x may y u t → Ends' y t → Ends x u)
      → Complete tree R Ends m run → ((x : X) → Complete tree' (S x) Ends' m (f (tree x)))
      → Complete tree' (Then R S) Ends' m (λ ts. and_then (run ts) f)
  seq_complete Ends Ends' run f sound k meets c1 c2 cut g g' may y f' t' r e from tied =
      go (c1 cut g g' may r.0 f' r.1 r.2 (meets may r.0 y r.1 t' r.3 e) from tied)
    where
      go : Lands cut g g' may m (run from) (λ to. Ok (tree r.0, to)) r.1
          → Lands cut g g' may m (and_then (run from) f) (λ to. Ok (tree' y, to)) t'
      go (good mid tm i) = lands_by cut g g' may m (ap (λ (o : Out A). and_then o f) i)
          (c2 r.0 cut g g' may y r.1 t' r.3 e mid tm)
      go (past c l) = past c (record {
        le = trans_le
            (seq_short from (run from) f (sound from) k) l.le;
      })
      go (deep q q' d t i y' n) = deep q q' d t (ap (λ (o : Out A). and_then o f) i) y' n

-- what may follow the second part may follow the first one, with the second behind it
abbrev pub Meets : {X Y : Type 0} → (X → Rel Y) → (X → Tokens → Type 0) → (Y → Tokens → Type 0)
    → Type 0
Meets {X} {Y} S Ends Ends' = (may : May) (x : X) (y : Y) (u t : Tokens) → S x may y u t → Ends' y t
    → Ends x u

-- nothing is asked of the text before the first part
pub seq : {X A Y B : Type 0} {tree : X → A} {tree' : Y → B} {R : Rel X} {S : X → Rel Y}
    {Kept Ends : X → Tokens → Type 0} {Kept' Ends' : Y → Tokens → Type 0}
    {after after' : Tokens → Tokens} {m : ℕ} {run : Tokens → Out A} (f : A → Tokens → Out B)
    → Piece tree R any Kept Ends after m run
    → ((x : X) → Piece tree' (S x) (Kept x) Kept' Ends' after' m (f (tree x))) → Grows after'
    → Meets S Ends Ends'
    → Piece tree' (Then R S) any Kept' Ends' (λ t. after (after' t)) m (λ ts. and_then (run ts) f)
seq {tree = tree} {tree' = tree'} {R = R} {S = S} {Kept = Kept} {Ends = Ends} {Kept' = Kept'}
    {Ends' = Ends'} {after = after} {after' = after'} {m = m} {run = run} f p q grow meets =
    record {
      grow = λ t. trans_le (grow t) (p.grow (after' t));
      least = λ may t fr fr'. first' may t fr fr';
      sound = λ ts h. seq_sound tree tree' R S Kept Kept' m ts (run ts) f after' grow
          (λ x. (q x).least) (p.sound ts tt) (λ x u k. (q x).sound u k);
      complete = seq_complete tree tree' R S Kept Kept' m Ends Ends' run f (λ ts. p.sound ts tt)
          (λ x u k. (q x).sound u k) meets p.complete (λ x. (q x).complete);
    }
  where
    first' : (may : May) (t : Tokens) → Frees t may → Frees (after (after' t)) may
        → (y : _) × Then R S may y (after (after' t)) t
    first' may t fr fr' =
        let fr1 : Frees (after' t) may = λ u d le. fr' u d (trans_le le (p.grow (after' t))) in
        let a = p.least may (after' t) fr1 fr' in
        let b = (q a.0).least may t fr fr1 in
        (b.0, (a.0, after' t, a.1, b.1))

-- where something is known of the text before
pub forget : {X A : Type 0} {tree : X → A} {R : Rel X} {Given : Tokens → Type 0}
    {Kept Ends : X → Tokens → Type 0} {after : Tokens → Tokens} {m : ℕ} {run : Tokens → Out A}
    → Piece tree R any Kept Ends after m run → Piece tree R Given Kept Ends after m run
forget p = record {
  grow = p.grow;
  least = p.least;
  sound = λ ts h. p.sound ts tt;
  complete = p.complete;
}

-- nothing more
abbrev pub Done : {X : Type 0} → X → Rel X
Done v may y u t = (v ≡ y) × (u ≡ t)

-- the part that takes no token and gives a value is sound and complete
pub done : {X A : Type 0} (tree : X → A) (v : X) {Given : Tokens → Type 0}
    {Kept Ends : X → Tokens → Type 0} (m : ℕ) → ((t : Tokens) → Given t → Kept v t)
    → Piece tree (Done v) Given Kept Ends (λ t. t) m (λ ts. Ok (tree v, ts))
done tree v m kept =
    record {
      grow = λ t. omega arith;
      least = λ may t fr fr'. (v, (refl, refl));
      sound = λ ts h. read v ts (record {
        put = λ u. u;
        way = stay;
        is = refl;
        again = λ may w u. (refl, refl);
      }) (kept ts h);
      complete = λ cut g g' may x f' t' r e f tied. good f
          (subst (λ (u : Tokens). Tied cut g g' f u) r.1 tied) (ap (λ y. Ok (tree y, f)) r.0);
    }

-- What holds of a thing and the tokens behind it holds of equal ones.
pub ends_with : {X : Type 0} (P : X → Tokens → Type 0) {v y : X} {u t : Tokens} → P v u
    → (v ≡ y) × (u ≡ t) → P y t
ends_with P {v = v} {y = y} {u = u} {t = t} p e = subst (λ t. P y t) e.1 (subst (λ y. P y u) e.0 p)

-- ---- the same under another name

-- what is sound for a spelling is so for another one that allows more
pub turn : {X A : Type 0} {tree : X → A} {R R' : Rel X} {Kept : X → Tokens → Type 0} {m : ℕ}
    → ((may : May) (x : X) (f t : Tokens) → R may x f t → R' may x f t)
    → (ts : Tokens) {out : Out A} → Sound tree R Kept m ts out → Sound tree R' Kept m ts out
turn h ts (read x t a k) = read x t (record {
  put = a.put;
  way = a.way;
  is = a.is;
  again = λ may w u. h may x _ u (a.again may w u);
}) k
turn h ts (stuck s o) =
    stuck s (record {
      put = o.put;
      way = o.way;
      is = o.is;
      more = o.more;
      grows = o.grows;
      held = o.held;
      completes = λ u. let c = o.completes u in (c.0, h (_) c.0 _ u c.1);
    })

-- what is sound and complete for a spelling is so for an equal one
pub iff : {X A : Type 0} {tree : X → A} {R R' : Rel X} {Given : Tokens → Type 0}
    {Kept Ends : X → Tokens → Type 0} {after : Tokens → Tokens} {m : ℕ} {run : Tokens → Out A}
    → Piece tree R Given Kept Ends after m run
    → ((may : May) (x : X) (f t : Tokens) → R may x f t → R' may x f t)
    → ((may : May) (x : X) (f t : Tokens) → R' may x f t → R may x f t)
    → Piece tree R' Given Kept Ends after m run
iff {after = after} p to from =
    record {
      grow = p.grow;
      least = λ may t fr fr'. let a = p.least may t fr fr' in (a.0, to may a.0 (after t) t a.1);
      sound = λ ts h. turn to ts (p.sound ts h);
      complete = λ cut g g' may x f' t' r e f tied. p.complete cut g g' may x f' t'
          (from may x f' t' r) e f tied;
    }

-- behind a token
pub prepend : {X A : Type 0} {tree : X → A} {R R' : Rel X} {Kept : X → Tokens → Type 0}
    {m : ℕ} (x : Lexeme) (ts : Tokens) → ts ≡ x ∷ tail ts
    → ((may : May) (y : X) (f t : Tokens) → R may y f t → R' may y (x ∷ f) t) → {out : Out A}
    → Sound tree R Kept m (tail ts) out → Sound tree R' Kept m ts out
prepend x ts e h (read y t a k) = read y t
    (record {
      put = λ u. x ∷ a.put u;
      way = both (one _) a.way;
      is = e ∙ ap (λ u. x ∷ u) a.is;
      again = λ may w u. h may y _ u (a.again may w u);
    }) k
prepend x ts e h (stuck s o) =
    stuck s (record {
      put = λ u. x ∷ o.put u;
      way = both (one _) o.way;
      is = e ∙ ap (λ u. x ∷ u) o.is;
      more = o.more;
      grows = o.grows;
      held = o.held;
      completes = λ u. let c = o.completes u in (c.0, h (_) c.0 _ u c.1);
    })

-- less may be asked of what follows
pub ends_by : {X A : Type 0} {tree : X → A} {R : Rel X} {Given : Tokens → Type 0}
    {Kept Ends Ends' : X → Tokens → Type 0} {after : Tokens → Tokens} {m : ℕ} {run : Tokens → Out A}
    → Piece tree R Given Kept Ends after m run → ((x : X) (t : Tokens) → Ends' x t → Ends x t)
    → Piece tree R Given Kept Ends' after m run
ends_by p h = record {
  grow = p.grow;
  least = p.least;
  sound = p.sound;
  complete = λ cut g g' may x f' t' r e f tied. p.complete cut g g' may x f' t' r
      (h x t' e) f tied;
}

-- ---- one or another, by the first token

-- the one spelling or the other
pub data Either {X : Type 0} (R S : Rel X) (may : May) (x : X) (f t : Tokens) : Type 0 where
  this : R may x f t → Either R S may x f t
  that : S may x f t → Either R S may x f t

-- the shortest text is one of the second
pub either : {X A : Type 0} {tree : X → A} {R S : Rel X} {Given : Tokens → Type 0}
    {Kept Ends : X → Tokens → Type 0} {after : Tokens → Tokens} {m : ℕ}
    {run run' : Tokens → Out A} (p : Form → Bool)
    → ((ts : Tokens) → Given ts → first p ts ≡ true → Sound tree R Kept m ts (run ts))
    → Complete tree R Ends m run
    → Grows after → Least S after → ((ts : Tokens) → Given ts → first p ts ≡ false
    → Sound tree S Kept m ts (run' ts)) → Complete tree S Ends m run'
    → ((may : May) (x : X) (f t : Tokens) → R may x f t → first p f ≡ true)
    → ((may : May) (x : X) (f t : Tokens) → S may x f t → Ends x t → first p f ≡ false)
    → Piece tree (Either R S) Given Kept Ends after m (λ ts. cond (first p ts) (run ts) (run' ts))
either {tree = tree} {R = R} {S = S} {Kept = Kept} {Ends = Ends} {m = m} {run = run}
    {run' = run'} p sound complete grow least sound' complete' is_this is_that =
    record {
      grow = grow;
      least = λ may t fr fr'. let a = least may t fr fr' in (a.0, that a.1);
      sound = λ ts h. split_if (Sound tree (Either R S) Kept m ts) (first p ts) _ _
          (λ e. turn (λ may x f t r. this r) ts (sound ts h e))
          (λ e. turn (λ may x f t r. that r) ts (sound' ts h e));
      complete = λ cut g g' may x f' t' r e f tied. whole cut g g' may x f' t' r e f tied;
    }
  where
    whole : (cut : Bool) (g g' : Tokens) (may : May) (x : _) (f' t' : Tokens)
        → Either R S may x f' t' → Ends x t' → (f : Tokens) → Tied cut g g' f f'
        → Lands cut g g' may m (cond (first p f) (run f) (run' f)) (λ to. Ok (tree x, to)) t'
    whole cut g g' may x f' t' (this r) e f tied =
        lands_by cut g g' may m (if_true (first p f) _ _
        (tied_first cut g g' p tied ∙ is_this may x f' t' r))
        (complete cut g g' may x f' t' r e f tied)
    whole cut g g' may x f' t' (that r) e f tied =
        lands_by cut g g' may m (if_false (first p f) _ _
        (tied_first cut g g' p tied ∙ is_that may x f' t' r e))
        (complete' cut g g' may x f' t' r e f tied)

-- of two pieces
pub either_of : {X A : Type 0} {tree : X → A} {R S : Rel X} {Kept Ends : X → Tokens → Type 0}
    {after after' : Tokens → Tokens} {m : ℕ} {run run' : Tokens → Out A} (p : Form → Bool)
    → Piece tree R any Kept Ends after' m run → Piece tree S any Kept Ends after m run'
    → ((may : May) (x : X) (f t : Tokens) → R may x f t → first p f ≡ true)
    → ((may : May) (x : X) (f t : Tokens) → S may x f t → Ends x t → first p f ≡ false)
    → Piece tree (Either R S) any Kept Ends after m (λ ts. cond (first p ts) (run ts) (run' ts))
either_of p a b is_this is_that = either p (λ ts h e. a.sound ts tt) a.complete b.grow b.least
    (λ ts h e. b.sound ts tt) b.complete is_this is_that
