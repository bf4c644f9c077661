-- Items up to a mark, each of which is some of what is listed.
use Rattle.std.proofs.Common.{◌≡◌, ℕ, zero, suc, ◌<◌, Bool, false, List, [], ◌∷◌, ◌++◌, length, Ok}
use Rattle.std.proofs.Common.{refl, sym, ◌∙◌, subst, arith}
use Rattle.c_tree.specs.declared.token.Mark.{Mark}
use Rattle.c_grammar.specs.Tokens.{Tokens, punct, May}
use Rattle.c_grammar.specs.inside.Numbers.{is_mark}
use Rattle.c_grammar.specs.inside.Parsing.{Out, and_then, tail, offset_of, is_next, many}
use Rattle.c_grammar.proofs.Numbers.{mark_self}
use Rattle.c_grammar.proofs.Agree.{split_if, if_true, if_false, trans_le, next_is, stay, one, Tied}
use Rattle.c_grammar.proofs.Agree.{head_step, tied_first, fine, short_then, Lands, good, past, lands_by}
use Rattle.c_grammar.proofs.Agree.{bind_lands}
use Rattle.c_grammar.proofs.Pieces.{Rel, Sound, read, stuck, Least, always, any, Piece, seq_sound}
use Rattle.c_grammar.proofs.Pieces.{same_tree, sound_short, turn}
use Rattle.c_grammar.proofs.Lists.{read_shorter}

abbrev appended : {A : Type 0} → List A → Rel (List A) → Rel (List A)
appended {A} x L may ys u t = (xs : List A) × L may xs u t × (ys ≡ x ++ xs)

-- groups of items, one after the other, up to a mark
pub data Many {A : Type 0} (R L : Rel (List A)) (k : Mark) (may : May) : List A → Tokens → Tokens → Type 0 where
  over : {l : ℕ} {t : Tokens} → Many R L k may [] (punct l k ∷ t) t
  more : {x xs : List A} {f u t : Tokens} → R may x f u → L may xs u t
      → Many R L k may (x ++ xs) f t

module _ {A : Type 0} (R L : Rel (List A)) (Ends : List A → Tokens → Type 0) (after : Tokens → Tokens) (m : ℕ)
    (run : Tokens → Out (List A)) (item : Piece same_tree R any always Ends after m run) (k : Mark)
    (to : (may : May) (xs : List A) (f t : Tokens) → Many R L k may xs f t → L may xs f t) where
  appended_sound : (x : List A) (u : Tokens) (out : Out (List A)) → Sound same_tree L always m u out
      → Sound same_tree (appended x L) always m u (and_then out (λ xs ts. Ok (x ++ xs, ts)))
  appended_sound x u _ (read xs t a h) = read (x ++ xs) t
      (record { put = a.put; way = a.way; is = a.is; again = λ may w v. (xs, a.again may w v, refl) })
      tt
  appended_sound x u _ (stuck s o) =
      stuck s (record {
        put = o.put;
        way = o.way;
        is = o.is;
        more = o.more;
        grows = o.grows;
        held = o.held;
        completes = λ v. let c = o.completes v in (x ++ c.0, (c.0, c.1, refl));
      })

  many_least : Least L (λ t. punct 0 k ∷ t)
  many_least may t fr fr' = ([], to may [] _ t over)

  -- the parser of items up to a mark is sound
  pub many_sound : (n : ℕ) (ts : Tokens) → Sound same_tree L always m ts (many k run n ts)
  many_sound zero ts = stuck _ (record {
    put = λ u. u;
    way = stay;
    is = refl;
    more = λ u. punct 0 k ∷ u;
    grows = λ u. omega arith;
    held = tt;
    completes =
        λ u. ([], to _ [] _ u over);
  })
  many_sound (suc n) ts =
      split_if (Sound same_tree L always m ts) (is_next k ts) _ _
      (λ e. read [] (tail ts) (record {
        put = λ u. punct (offset_of ts) k ∷ u;
        way = one _;
        is = next_is k ts e;
        again = λ may w u. to may [] _ u over;
      }) tt)
      (λ e. turn (λ may ys f t r. let c = r.3 in subst (λ (ys : List A). L may ys f t) (sym c.2)
      (to may _ f t (more r.2 c.1))) ts
      (seq_sound same_tree same_tree R (λ x. appended x L) always always m ts (run ts)
      (λ x ts. and_then (many k run n ts) (λ xs ts. Ok (x ++ xs, ts))) (λ t. punct 0 k ∷ t)
      (λ t. omega arith)
      (λ x may t fr fr'. let l = many_least may t fr fr' in (x ++ l.0, (l.0, l.1, refl))) (item.sound ts tt)
      (λ x u _. appended_sound x u (many k run n u) (many_sound n u))))

  module _ (from : (may : May) (xs : List A) (f t : Tokens) → L may xs f t → Many R L k may xs f t)
      (strict : (may : May) (x : List A) (f t : Tokens) → R may x f t → length t < length f)
      (begins : (may : May) (x : List A) (f t : Tokens) → R may x f t → is_next k f ≡ false)
      (meets : (may : May) (x xs : List A) (u t : Tokens) → L may xs u t → Ends x u) where
    many_turn : (cut : Bool) (g g' : Tokens) (may : May) (n : ℕ)
        → ((xs : List A) (f' t' : Tokens) → L may xs f' t' → (f : Tokens) → length f < n
        → Tied cut g g' f f' → Lands cut g g' may m (many k run n f) (λ to. Ok (xs, to)) t')
        → (xs : List A) (f' t' : Tokens) → Many R L k may xs f' t' → (f : Tokens) → length f < suc n
        → Tied cut g g' f f' → Lands cut g g' may m (many k run (suc n) f) (λ to. Ok (xs, to)) t'
    many_turn cut g g' may n below _ _ t' over f lt tied =
        lands_by cut g g' may m (if_true (is_next k f) _ _
        (tied_first cut g g' (is_mark k) tied ∙ mark_self k))
        (head_step cut g g' (λ u. Lands cut g g' may m (none_here (tail u)) none_here t') tied
        (λ r tr. good r tr refl) (λ h. past h (fine cut g g' (omega arith))))
      where
        none_here : Tokens → Out (List A)
        none_here t = Ok ([], t)
    many_turn cut g g' may n below _ f' t' (more {x = x} {xs = xs} {u = u} r l) f lt tied =
        lands_by cut g g' may m (if_false (is_next k f) _ _
        (tied_first cut g g' (is_mark k) tied ∙ begins may x f' u r))
        (bind_lands cut g g' may m x (run f)
        (λ x ts. and_then (many k run n ts) (λ xs ts. Ok (x ++ xs, ts)))
        (λ to. Ok (x ++ xs, to)) u t'
        (item.complete cut g g' may x f' u r (meets may x xs u t' l) f tied)
        (λ y v le. short_then cut g g' (many k run n v) _
        (record {
          le = trans_le (sound_short same_tree L always m v (many k run n v)
              (many_sound n v)) le;
        }) (λ ys w le. fine cut g g' le))
        (λ mid tm i. let sh = read_shorter strict f x (run f) mid (item.sound f tt) i in
        bind_lands cut g g' may m xs (many k run n mid) (λ xs ts. Ok (x ++ xs, ts))
        (λ to. Ok (x ++ xs, to)) t' t' (below xs u t' l mid (omega (arith, sh, lt)) tm)
        (λ ys w le. fine cut g g' le) (λ mid2 t2 i2. good mid2 t2 refl)))

    -- the parser of items up to a mark is complete
    pub many_complete : (cut : Bool) (g g' : Tokens) (may : May) (n : ℕ) (xs : List A)
        (f' t' : Tokens) → L may xs f' t' → (f : Tokens) → length f < n → Tied cut g g' f f'
        → Lands cut g g' may m (many k run n f) (λ to. Ok (xs, to)) t'
    many_complete cut g g' may zero xs f' t' l f lt tied = absurd (omega (arith, lt))
    many_complete cut g g' may (suc n) xs f' t' l f lt tied =
        many_turn cut g g' may n (λ xs f' t' l f lt tied. many_complete cut g g' may n xs f' t' l f lt
        tied) xs f' t' (from may xs f' t' l) f lt tied

    -- the parser of groups up to a mark is sound and complete where that of one group is
    pub many_piece : Piece same_tree L any always always (λ t. punct 0 k ∷ t) m
        (λ ts. many k run (suc (length ts)) ts)
    many_piece =
        record {
          grow = λ t. omega arith;
          least = many_least;
          sound = λ ts h. many_sound (suc (length ts)) ts;
          complete =
              λ cut g g' may xs f' t' l e f tied. many_complete cut g g' may
              (suc (length f)) xs f' t' l f (omega arith) tied;
        }
