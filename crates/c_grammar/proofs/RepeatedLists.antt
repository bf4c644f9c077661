-- Items, one at least, as long as another one begins.
use Rattle.std.proofs.Common.{◌≡◌, ℕ, zero, suc, ◌<◌, ◌≤◌, Bool, true, false, List, [], ◌∷◌, length, Ok}
use Rattle.std.proofs.Common.{refl, ◌∙◌, arith}
use Rattle.c_tree.specs.declared.token.Form.{Form}
use Rattle.c_grammar.specs.Tokens.{Tokens, May}
use Rattle.c_grammar.specs.inside.Parsing.{Out, and_then, first, repeated, repeated_on}
use Rattle.c_grammar.proofs.Agree.{split_if, if_true, if_false, trans_le, stay, frees_after, Tied}
use Rattle.c_grammar.proofs.Agree.{tied_first, Brief, fine, short_then, short_if, Lands, good, lands_by}
use Rattle.c_grammar.proofs.Agree.{bind_lands}
use Rattle.c_grammar.proofs.Pieces.{Rel, Sound, read, stuck, Least, Then, always, any, Piece, seq_sound}
use Rattle.c_grammar.proofs.Pieces.{same_tree, sound_short, turn}
use Rattle.c_grammar.proofs.Lists.{read_shorter}
use Rattle.c_grammar.proofs.MarkedLists.{more}

-- what stands behind an item
pub data More {A : Type 0} (L : Rel (List A)) (x : A) (may : May) : List A → Tokens → Tokens → Type 0 where
  rests : {t : Tokens} → More L x may (x ∷ []) t t
  runs_on : {xs : List A} {f t : Tokens} → L may xs f t → More L x may (x ∷ xs) f t

module _ {A : Type 0} (R : Rel A) (L : Rel (List A)) (Ends : A → Tokens → Type 0) (after : Tokens → Tokens) (m : ℕ)
    (run : Tokens → Out A) (item : Piece same_tree R any always Ends after m run) (begins : Form → Bool)
    (to : (may : May) (xs : List A) (f t : Tokens) → Then R (λ x. More L x) may xs f t → L may xs f t) where
  repeated_least : Least L after
  repeated_least may t fr fr' =
      let a = item.least may t fr fr' in (a.0 ∷ [], to may _ _ t (a.0, t, a.1, rests))

  run_consed : (x : A) (u : Tokens) (out : Out (List A)) → Sound same_tree L always m u out
      → Sound same_tree (More L x) always m u (and_then out (λ xs ts. Ok (x ∷ xs, ts)))
  run_consed x u _ (read xs t a h) = read (x ∷ xs) t
      (record { put = a.put; way = a.way; is = a.is; again = λ may w v. runs_on (a.again may w v) })
      tt
  run_consed x u _ (stuck s o) =
      stuck s (record {
        put = o.put;
        way = o.way;
        is = o.is;
        more = o.more;
        grows = o.grows;
        held = o.held;
        completes = λ v. let c = o.completes v in (x ∷ c.0, runs_on c.1);
      })

  more_sound : (x : A) (n : ℕ) → ((ts : Tokens)
      → Sound same_tree L always m ts (repeated begins run n ts)) → (ts : Tokens)
      → Sound same_tree (More L x) always m ts (repeated_on begins run n x ts)
  more_sound x n below ts =
      split_if (Sound same_tree (More L x) always m ts) (first begins ts) _ _
      (λ e. run_consed x ts (repeated begins run n ts) (below ts))
      (λ e. read (x ∷ []) ts
      (record { put = λ u. u; way = stay; is = refl; again = λ may w u. rests }) tt)

  -- the parser of items as long as one begins is sound
  pub repeated_sound : (n : ℕ) (ts : Tokens)
      → Sound same_tree L always m ts (repeated begins run n ts)
  repeated_sound zero ts =
      stuck _ (record {
        put = λ u. u;
        way = stay;
        is = refl;
        more = after;
        grows = item.grow;
        held = tt;
        completes = λ u. repeated_least _ u (frees_after m after item.grow u)
            (λ q d le. frees_after m (λ u. u) (λ u. omega arith) (after u) q d le);
      })
  repeated_sound (suc n) ts =
      turn to ts
      (seq_sound same_tree same_tree R (λ x. More L x) always always m ts (run ts)
      (repeated_on begins run n) (λ t. t) (λ t. omega arith)
      (λ x may t fr fr'. (x ∷ [], rests)) (item.sound ts tt)
      (λ x u _. more_sound x n (repeated_sound n) u))

  module _ (from : (may : May) (xs : List A) (f t : Tokens) → L may xs f t → Then R (λ x. More L x) may xs f t)
      (Behind : Tokens → Type 0) (shorter : (may : May) (x : A) (f t : Tokens) → R may x f t → length t < length f)
      (starts : (may : May) (xs : List A) (f t : Tokens) → L may xs f t → first begins f ≡ true)
      (stops : (t : Tokens) → Behind t → first begins t ≡ false)
      (before_next : (may : May) (x : A) (xs : List A) (f t : Tokens) → L may xs f t → Ends x f)
      (before_last : (x : A) (t : Tokens) → Behind t → Ends x t) where
    more_brief : (cut : Bool) (g g' : Tokens) (n : ℕ) (x : A) (r : Tokens) → length r ≤ length g
        → Brief cut g g' (repeated_on begins run n x r)
    more_brief cut g g' n x r le =
        short_if cut g g' (first begins r) _ _
        (short_then cut g g' (repeated begins run n r) _
        (record {
          le = trans_le (sound_short same_tree L always m r (repeated begins run n r)
              (repeated_sound n r)) le;
        }) (λ ys w le. fine cut g g' le))
        (fine cut g g' le)

    more_meets : (may : May) (x : A) (ys : List A) (u t : Tokens) → More L x may ys u t → Behind t
        → Ends x u
    more_meets may x _ _ t rests b = before_last x t b
    more_meets may x _ u t (runs_on {xs = xs} l) b = before_next may x xs u t l

    more_lands : (cut : Bool) (g g' : Tokens) (may : May) (n : ℕ)
        → ((xs : List A) (f' t' : Tokens) → L may xs f' t' → Behind t' → (f : Tokens) → length f < n
        → Tied cut g g' f f'
        → Lands cut g g' may m (repeated begins run n f) (λ to. Ok (xs, to)) t')
        → (x : A) (ys : List A) (u t' : Tokens) → More L x may ys u t' → Behind t' → (mid : Tokens)
        → length mid < n → Tied cut g g' mid u
        → Lands cut g g' may m (repeated_on begins run n x mid) (λ to. Ok (ys, to)) t'
    more_lands cut g g' may n below x _ _ t' rests b mid lt tm =
        lands_by cut g g' may m (if_false (first begins mid) _ _
        (tied_first cut g g' begins tm ∙ stops t' b))
        (good mid tm refl)
    more_lands cut g g' may n below x _ u t' (runs_on {xs = xs} l) b mid lt tm =
        lands_by cut g g' may m (if_true (first begins mid) _ _
        (tied_first cut g g' begins tm ∙ starts may xs u t' l))
        (bind_lands cut g g' may m xs (repeated begins run n mid) (λ xs ts. Ok (x ∷ xs, ts))
        (λ to. Ok (x ∷ xs, to)) t' t' (below xs u t' l b mid lt tm)
        (λ ys w le. fine cut g g' le) (λ mid2 t2 i2. good mid2 t2 refl))

    -- the parser of items as long as one begins is complete
    pub repeated_complete : (cut : Bool) (g g' : Tokens) (may : May) (n : ℕ) (xs : List A)
        (f' t' : Tokens) → L may xs f' t' → Behind t' → (f : Tokens) → length f < n
        → Tied cut g g' f f'
        → Lands cut g g' may m (repeated begins run n f) (λ to. Ok (xs, to)) t'
    repeated_complete cut g g' may zero xs f' t' l b f lt tied = absurd (omega (arith, lt))
    repeated_complete cut g g' may (suc n) xs f' t' l b f lt tied =
        let r = from may xs f' t' l in
        bind_lands cut g g' may m r.0 (run f) (repeated_on begins run n)
        (λ to. Ok (xs, to)) r.1 t' (item.complete cut g g' may r.0 f' r.1 r.2
        (more_meets may r.0 xs r.1 t' r.3 b) f tied) (λ y v le. more_brief cut g g' n y v le)
        (λ mid tm i. more_lands cut g g' may n
        (λ xs f' t' l b f lt tied. repeated_complete cut g g' may n xs f' t' l b f lt tied) r.0 xs r.1
        t' r.3 b mid
        (let h = read_shorter shorter f r.0 (run f) mid (item.sound f tt) i in omega (arith, lt, h)) tm)

    -- the parser of items as long as another one begins is sound and complete where that of its items is
    pub repeated_piece : Piece same_tree L any always (λ xs t. Behind t) after m
        (λ ts. repeated begins run (suc (length ts)) ts)
    repeated_piece =
        record {
          grow = item.grow;
          least = repeated_least;
          sound = λ ts h. repeated_sound (suc (length ts)) ts;
          complete = λ cut g g' may xs f' t' l e f tied. repeated_complete cut g g' may
              (suc (length f)) xs f' t' l e f (omega arith) tied;
        }
