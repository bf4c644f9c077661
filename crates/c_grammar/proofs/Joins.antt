-- Loops of the parser of expressions: phrases joined to the left, and suffixes.
use Rattle.std.proofs.Common.{◌≡◌, ℕ, zero, suc, ◌≤◌, Bool, ◌∷◌, length, Ok, refl, ap, subst, arith}
use Rattle.c_tree.specs.declared.token.Lexeme.{Lexeme}
use Rattle.c_tree.specs.declared.token.Form.TheVariants as form
use Rattle.c_tree.specs.declared.tree.Expr.{Expr}
use Rattle.c_grammar.specs.Tokens.{Tokens, punct, May}
use Rattle.c_grammar.specs.Operators.{Joiner, joiner_mark, below, joined, Suffix, suffix_mark}
use Rattle.c_grammar.specs.Operators.{suffixed}
use Rattle.c_grammar.specs.Expressions.{expr, Spells, number, name, group, element, call, suffix}
use Rattle.c_grammar.specs.Expressions.{row_element}
use Rattle.c_grammar.specs.Expressions.{prefix, cast, join, choice, assign, up}
use Rattle.c_grammar.specs.inside.Parsing.{Out, and_then, tail, offset_of}
use Rattle.c_grammar.specs.inside.ModelExpressions.{loop, suffixes}
use Rattle.c_grammar.specs.inside.ModelOperators.{joiner, suffix_of, seen}
use Rattle.c_grammar.proofs.Agree.{stay, place, Tied, at_cut, alike, head_step, Lands, good, past}
use Rattle.c_grammar.proofs.Agree.{lands_by, bind_lands}
use Rattle.c_grammar.proofs.Pieces.{Rel, Sound, read, Then, always, any, Piece, seq_sound}
use Rattle.c_grammar.proofs.Pieces.{same_tree, sound_short, prepend}
use Rattle.c_grammar.proofs.Stops.{Stops, lower, tied_stops, seen_is, by_none, by_some, by_step}
use Rattle.c_grammar.proofs.Stops.{bind_joiner, joiner_self, joiner_is, joiner_below, joiner_none}
use Rattle.c_grammar.proofs.Stops.{Joining, below_joins, suffix_self, suffix_is, suffix_none}
use Rattle.c_grammar.proofs.Stops.{bind_suffix}
use Rattle.c_grammar.proofs.Levels.{zero_first}

-- the spelling of an expression of a level at a depth
abbrev pub Level : ℕ → ℕ → Rel Expr
Level n d may e f t = Spells may (expr n e) d f t

-- tokens that do not go on with an expression of a level
abbrev pub ends_at : ℕ → Expr → Tokens → Type 0
ends_at n e t = Stops n t

-- an expression that takes no further token
abbrev pub expr_here : Expr → Tokens → Out Expr
expr_here e t = Ok (e, t)

-- from a phrase, what joins on to it
pub data Joins (d k : ℕ) (may : May) (r : Expr) : Expr → Tokens → Tokens → Type 0 where
  over : {t : Tokens} → Joins d k may r r t t
  on : {l : ℕ} {a b : Expr} {m u t : Tokens} → (j : Joiner) → below j ≡ k
      → Spells may (expr k b) d m u → Joins d k may r (joined l j a b) u t
      → Joins d k may r a (punct l (joiner_mark j) ∷ m) t

abbrev pub JoinsFrom : ℕ → ℕ → Expr → Rel Expr
JoinsFrom d k a may r f t = Joins d k may r a f t

joins_stop : {d k : ℕ} {may : May} {r a : Expr} {u t : Tokens} → Joins d k may r a u t
    → Stops (suc k) t → Stops k u
joins_stop {k = k} (over {t = t}) s = lower k (suc k) t (omega arith) s
joins_stop (on j e y js) s = let b = bind_joiner j in omega (arith, b, e)

join_at : {may : May} {d l : ℕ} {a b : Expr} {f u t : Tokens} → (j : Joiner) (k : ℕ) → below j ≡ k
    → Spells may (expr (suc k) a) d f (punct l (joiner_mark j) ∷ u) → Spells may (expr k b) d u t
    → Spells may (expr (suc k) (joined l j a b)) d f t
join_at {may} {d} {l} {a} {b} {f} {u} {t} j k e =
    subst (λ (k : ℕ). Spells may (expr (suc k) a) d f (punct l (joiner_mark j) ∷ u)
    → Spells may (expr k b) d u t → Spells may (expr (suc k) (joined l j a b)) d f t) e (join j)

join_to : {may : May} {d k : ℕ} {r a : Expr} {f u t : Tokens} → Spells may (expr (suc k) a) d f u
    → Joins d k may r a u t → Spells may (expr (suc k) r) d f t
join_to x over = x
join_to {k = k} x (on j e y js) = join_to (join_at j k e x y) js

-- an expression with what is joined to it makes one of the next level
pub joins_to : {d k : ℕ} (may : May) (r : Expr) (f t : Tokens)
    → Then (Level k d) (JoinsFrom d k) may r f t → Level (suc k) d may r f t
joins_to may r f t q = join_to (up q.2) q.3

join_from : {may : May} {n d : ℕ} {r a : Expr} {f u t : Tokens} → (k : ℕ) → Joining k
    → Spells may (expr n a) d f u → n ≡ suc k → Joins d k may r a u t
    → Then (Level k d) (JoinsFrom d k) may r f t
join_from k g number e js = absurd (omega (arith, e))
join_from k g name e js = absurd (omega (arith, e))
join_from k g (group ok x) e js = absurd (omega (arith, e))
join_from k g (element ok x) e js = absurd (omega (arith, e))
join_from k g (row_element ok x ok' y) e js = absurd (omega (arith, e))
join_from k g (call ok x) e js = absurd (omega (arith, e))
join_from k g (suffix s x) e js = absurd (omega (arith, e, g.many))
join_from k g (prefix p ok x) e js = absurd (omega (arith, e, g.many))
join_from k g (cast ok x y) e js = absurd (omega (arith, e, g.many))
join_from {may} {d = d} k g (join {b = b} {m = m} {t = u} j x y) e js =
    let i : below j ≡ k = omega (arith, e) in
    join_from k g x e (on j i (subst (λ (k : ℕ). Spells may (expr k b) d m u) i y) js)
join_from k g (choice x ok y z) e js = absurd (g.not_choice (omega (arith, e)))
join_from k g (assign s x ok y) e js = absurd (g.not_assign (omega (arith, e)))
join_from {may} {d = d} {r} {a} {f} {u} k g (up {n = n} x) e js =
    let i : n ≡ k = omega (arith, e) in
    (a, u, subst (λ (k : ℕ). Spells may (expr k a) d f u) i x, js)

-- an expression of the next level is one of the level with what is joined to it
pub joins_from : {d k : ℕ} → Joining k → (may : May) (r : Expr) (f t : Tokens)
    → Level (suc k) d may r f t → Then (Level k d) (JoinsFrom d k) may r f t
joins_from {k = k} g may r f t x = join_from k g x refl over

none_left : {cut : Bool} {g g' ts ts' : Tokens} {x : Lexeme} → Tied cut g g' ts (x ∷ ts')
    → length ts ≤ 0 → ⊥
none_left (at_cut t c) le = omega (arith, le)
none_left (alike t x) le = omega (arith, le)

module _ (m d k : ℕ) (inner : Tokens → Out Expr)
    (item : Piece same_tree (Level k d) any always (ends_at k) zero_first m inner) where
  -- behind a joiner
  turn_sound : (n l : ℕ) (a : Expr) (j : Joiner)
      → ((a : Expr) (ts : Tokens) → Sound same_tree (JoinsFrom d k a) always m ts
      (loop inner k n a ts)) → (ts : Tokens)
      → Sound same_tree (Then (Level k d) (λ b. JoinsFrom d k (joined l j a b))) always m ts
      (and_then (inner ts) (λ b ts. loop inner k n (joined l j a b) ts))
  turn_sound n l a j below' ts =
      seq_sound same_tree same_tree (Level k d)
      (λ b. JoinsFrom d k (joined l j a b)) always always m ts (inner ts)
      (λ b ts. loop inner k n (joined l j a b) ts) (λ t. t) (λ t. omega arith)
      (λ b may t fr fr'. (joined l j a b, over)) (item.sound ts tt) (λ b u _. below' (joined l j a b) u)

  joins_sound : (n : ℕ) (a : Expr) (ts : Tokens)
      → Sound same_tree (JoinsFrom d k a) always m ts (loop inner k n a ts)
  joins_sound zero a ts = read a ts (record {
    put = λ u. u;
    way = stay;
    is = refl;
    again = λ may w u. over;
  }) tt
  joins_sound (suc n) a ts =
      by_step (Sound same_tree (JoinsFrom d k a) always m ts) (seen (joiner k) ts) _ _
      (λ e. read a ts (record { put = λ u. u; way = stay; is = refl; again = λ may w u. over }) tt)
      (λ j e. prepend (punct (offset_of ts) (joiner_mark j)) ts
      (seen_is (joiner k) joiner_mark (λ f j e. (joiner_is k f j e).0) ts j e)
      (λ may r f t q. on j (joiner_below k ts j e) q.2 q.3)
      (turn_sound n (offset_of ts) a j (joins_sound n) (tail ts)))

  loop_stops : (n : ℕ) (a : Expr) (ts : Tokens) → Stops (suc k) ts
      → loop inner k n a ts ≡ Ok (a, ts)
  loop_stops zero a ts s = refl
  loop_stops (suc n) a ts s = by_none (seen (joiner k) ts) _ _ (joiner_none k ts s)

  loop_joins : (n l : ℕ) (a : Expr) (j : Joiner) (r : Tokens) → below j ≡ k
      → loop inner k (suc n) a (punct l (joiner_mark j) ∷ r)
      ≡ and_then (inner r) (λ b ts. loop inner k n (joined l j a b) ts)
  loop_joins n l a j r e = by_some (joiner k (form.Mark (joiner_mark j))) j
      (expr_here a (punct l (joiner_mark j) ∷ r))
      (λ j. and_then (inner r) (λ b ts. loop inner k n (joined l j a b) ts)) (joiner_self j k e)

  joins_land : (cut : Bool) (g g' : Tokens) (may : May) (n : ℕ) (a r : Expr) (f' t' : Tokens)
      → Joins d k may r a f' t' → Stops (suc k) t' → (f : Tokens) → length f ≤ n → Tied cut g g' f f'
      → Lands cut g g' may m (loop inner k n a f) (λ to. Ok (r, to)) t'
  joins_land cut g g' may zero a r f' t' over s f le tied = good f tied refl
  joins_land cut g g' may zero a r f' t' (on j e y js) s f le tied = absurd (none_left tied le)
  joins_land cut g g' may (suc n) a r f' t' over s f le tied =
      good f tied (loop_stops (suc n) a f (tied_stops (suc k) tied s))
  joins_land cut g g' may (suc n) a r f' t'
      (on {l = l} {b = b} {m = v} {u = u} j e y js) s f le tied =
      head_step cut g g' (λ w. length w ≤ suc n
      → Lands cut g g' may m (loop inner k (suc n) a w) (λ to. Ok (r, to)) t') tied
      (λ w tw le. lands_by cut g g' may m (loop_joins n l a j w e)
      (bind_lands cut g g' may m b (inner w) (λ b ts. loop inner k n (joined l j a b) ts)
      (λ to. Ok (r, to)) u t' (item.complete cut g g' may b v u y (joins_stop js s) w tw)
      (λ x v le. record {
        le = omega (
          arith,
          le,
          sound_short same_tree (JoinsFrom d k (joined l j a x)) always m v
              (loop inner k n (joined l j a x) v) (joins_sound n (joined l j a x) v),
        );
      })
      (λ mid tm i. joins_land cut g g' may n (joined l j a b) r u t' js s mid
      (omega (
        arith,
        le,
        sound_short same_tree (Level k d) always m w (inner w) (item.sound w tt),
        ap (λ (o : Out Expr). length (place o)) i,
      )) tm)))
      (λ c le. past c (record {
        le = omega (
          arith,
          ap (λ (o : Out Expr). length (place o)) (loop_joins n l a j g e),
          sound_short same_tree (Then (Level k d) (λ b. JoinsFrom d k (joined l j a b))) always m g
              (and_then (inner g) (λ b ts. loop inner k n (joined l j a b) ts))
              (turn_sound n l a j (joins_sound n) g),
        );
      }))
      le

  -- the loop that joins phrases to the left is sound and complete
  pub joins_piece : (a : Expr) → Piece same_tree (JoinsFrom d k a) any always (ends_at (suc k))
      (λ t. t) m (λ ts. loop inner k (length ts) a ts)
  joins_piece a =
      record {
        grow = λ t. omega arith;
        least = λ may t fr fr'. (a, over);
        sound = λ ts h. joins_sound (length ts) a ts;
        complete = λ cut g g' may r f' t' x s f tied. joins_land cut g g' may
            (length f) a r f' t' x s f (omega arith) tied;
      }

  -- what is joined to an expression begins with a token that does not go on with one of its level
  pub joins_meets : (may : May) (a r : Expr) (u t : Tokens) → JoinsFrom d k a may r u t
      → Stops (suc k) t → Stops k u
  joins_meets may a r u t js s = joins_stop js s

-- ---- suffixes

pub data Suffixes (may : May) (r : Expr) : Expr → Tokens → Tokens → Type 0 where
  over' : {t : Tokens} → Suffixes may r r t t
  on' : {l : ℕ} {a : Expr} {u t : Tokens} → (s : Suffix) → Suffixes may r (suffixed l s a) u t
      → Suffixes may r a (punct l (suffix_mark s) ∷ u) t

-- the spelling of suffixes of an expression
abbrev pub SuffixesOf : Expr → Rel Expr
SuffixesOf a may r f t = Suffixes may r a f t

-- suffixes begin with a token that does not go on with a primary expression
pub suffixes_stop : (may : May) (a r : Expr) (u t : Tokens) → SuffixesOf a may r u t → Stops 1 t
    → Stops 0 u
suffixes_stop may a _ _ t over' s = lower 0 1 t (omega arith) s
suffixes_stop may a r _ t (on' x js) s = let b = bind_suffix x in omega (arith, b)

suffix_to : {may : May} {d : ℕ} {r a : Expr} {f u t : Tokens} → Spells may (expr 1 a) d f u
    → Suffixes may r a u t → Spells may (expr 1 r) d f t
suffix_to x over' = x
suffix_to x (on' s js) = suffix_to (suffix s x) js

-- a primary expression with its suffixes is a postfix expression
pub suffixes_to : {d : ℕ} (may : May) (r : Expr) (f t : Tokens)
    → Then (Level 0 d) SuffixesOf may r f t → Level 1 d may r f t
suffixes_to may r f t q = suffix_to (up q.2) q.3

suffix_from : {may : May} {n d : ℕ} {r a : Expr} {f u t : Tokens} → Spells may (expr n a) d f u
    → n ≡ 1 → Suffixes may r a u t → Then (Level 0 d) SuffixesOf may r f t
suffix_from number e js = absurd (omega (arith, e))
suffix_from name e js = absurd (omega (arith, e))
suffix_from (group ok x) e js = absurd (omega (arith, e))
suffix_from (element ok x) e js = absurd (omega (arith, e))
suffix_from (row_element ok x ok' y) e js = absurd (omega (arith, e))
suffix_from (call ok x) e js = absurd (omega (arith, e))
suffix_from (suffix s x) e js = suffix_from x refl (on' s js)
suffix_from (prefix p ok x) e js = absurd (omega (arith, e))
suffix_from (cast ok x y) e js = absurd (omega (arith, e))
suffix_from (join j x y) e js = let h = (below_joins j).many in absurd (omega (arith, e, h))
suffix_from (choice x ok y z) e js = absurd (omega (arith, e))
suffix_from (assign s x ok y) e js = absurd (omega (arith, e))
suffix_from {may} {d = d} {r} {a} {f} {u} (up {n = n} x) e js =
    let i : n ≡ 0 = omega (arith, e) in
    (a, u, subst (λ (k : ℕ). Spells may (expr k a) d f u) i x, js)

-- a postfix expression is a primary one with its suffixes
pub suffixes_from : {d : ℕ} (may : May) (r : Expr) (f t : Tokens) → Level 1 d may r f t
    → Then (Level 0 d) SuffixesOf may r f t
suffixes_from may r f t x = suffix_from x refl over'

module _ (m : ℕ) where
  suffixes_sound : (n : ℕ) (a : Expr) (ts : Tokens)
      → Sound same_tree (SuffixesOf a) always m ts (suffixes n a ts)
  suffixes_sound zero a ts = read a ts (record {
    put = λ u. u;
    way = stay;
    is = refl;
    again = λ may w u. over';
  }) tt
  suffixes_sound (suc n) a ts =
      by_step (Sound same_tree (SuffixesOf a) always m ts) (seen suffix_of ts) _ _
      (λ e. read a ts (record { put = λ u. u; way = stay; is = refl; again = λ may w u. over' }) tt)
      (λ s e. prepend (punct (offset_of ts) (suffix_mark s)) ts
      (seen_is suffix_of suffix_mark suffix_is ts s e) (λ may r f t q. on' s q)
      (suffixes_sound n (suffixed (offset_of ts) s a) (tail ts)))

  suffixes_stops : (n : ℕ) (a : Expr) (ts : Tokens) → Stops 1 ts → suffixes n a ts ≡ Ok (a, ts)
  suffixes_stops zero a ts s = refl
  suffixes_stops (suc n) a ts s = by_none (seen suffix_of ts) _ _ (suffix_none ts s)

  suffixes_on : (n l : ℕ) (a : Expr) (s : Suffix) (r : Tokens)
      → suffixes (suc n) a (punct l (suffix_mark s) ∷ r) ≡ suffixes n (suffixed l s a) r
  suffixes_on n l a s r = by_some (suffix_of (form.Mark (suffix_mark s))) s
      (expr_here a (punct l (suffix_mark s) ∷ r)) (λ s. suffixes n (suffixed l s a) r) (suffix_self s)

  suffixes_land : (cut : Bool) (g g' : Tokens) (may : May) (n : ℕ) (a r : Expr) (f' t' : Tokens)
      → Suffixes may r a f' t' → Stops 1 t' → (f : Tokens) → length f ≤ n → Tied cut g g' f f'
      → Lands cut g g' may m (suffixes n a f) (λ to. Ok (r, to)) t'
  suffixes_land cut g g' may zero a r f' t' over' s f le tied = good f tied refl
  suffixes_land cut g g' may zero a r f' t' (on' x js) s f le tied = absurd (none_left tied le)
  suffixes_land cut g g' may (suc n) a r f' t' over' s f le tied =
      good f tied (suffixes_stops (suc n) a f (tied_stops 1 tied s))
  suffixes_land cut g g' may (suc n) a r f' t' (on' {l = l} {u = u} x js) s f le tied =
      head_step cut g g' (λ w. length w ≤ suc n
      → Lands cut g g' may m (suffixes (suc n) a w) (λ to. Ok (r, to)) t') tied
      (λ w tw le. lands_by cut g g' may m (suffixes_on n l a x w)
      (suffixes_land cut g g' may n (suffixed l x a) r u t' js s w (omega (arith, le)) tw))
      (λ c le. past c (record {
        le = omega (
          arith,
          ap (λ (o : Out Expr). length (place o)) (suffixes_on n l a x g),
          sound_short same_tree (SuffixesOf (suffixed l x a)) always m g (suffixes n (suffixed l x a) g)
              (suffixes_sound n (suffixed l x a) g),
        );
      }))
      le

  -- the loop of suffixes is sound and complete
  pub suffixes_piece : (a : Expr) → Piece same_tree (SuffixesOf a) any always (ends_at 1) (λ t. t) m
      (λ ts. suffixes (length ts) a ts)
  suffixes_piece a =
      record {
        grow = λ t. omega arith;
        least = λ may t fr fr'. (a, over');
        sound = λ ts h. suffixes_sound (length ts) a ts;
        complete = λ cut g g' may r f' t' x s f tied. suffixes_land cut g g' may
            (length f) a r f' t' x s f (omega arith) tied;
      }
