-- Items up to the end of the tokens.
use Rattle.std.proofs.Common.{◌≡◌, ℕ, zero, suc, ◌<◌, Bool, true, false, cond, List, [], ◌∷◌, ◌++◌}
use Rattle.std.proofs.Common.{length, Ok, refl, ap, subst, arith}
use Rattle.std.proofs.lemmas.Bool.{false≢true}
use Rattle.c_grammar.specs.Tokens.{Tokens, May}
use Rattle.c_grammar.specs.inside.Parsing.{Out, and_then, is_end, to_end}
use Rattle.c_grammar.proofs.Agree.{split_if, if_true, if_false, trans_le, stay, frees_after, frees_all}
use Rattle.c_grammar.proofs.Agree.{Tied, end, at_cut, alike, fine, short_then, short_if, Lands, good}
use Rattle.c_grammar.proofs.Agree.{lands_by, bind_lands}
use Rattle.c_grammar.proofs.Pieces.{Rel, Sound, read, stuck, Least, Then, always, any, Piece, seq_sound}
use Rattle.c_grammar.proofs.Pieces.{same_tree, sound_short, turn}
use Rattle.c_grammar.proofs.Lists.{read_shorter}
use Rattle.c_grammar.proofs.MarkedLists.{more}

-- only the end may follow
abbrev pub at_end : {X : Type 0} → X → Tokens → Type 0
at_end x t = t ≡ []

-- what stands behind an item
pub data EndTail {A : Type 0} (L : Rel (List A)) (x : List A) (may : May) : List A → Tokens → Tokens → Type 0 where
  end_here : {t : Tokens} → EndTail L x may x t t
  goes_on : {xs : List A} {u t : Tokens} → L may xs u t → EndTail L x may (x ++ xs) u t

is_end_is : (ts : Tokens) → is_end ts ≡ true → ts ≡ []
is_end_is [] e = refl
is_end_is (t ∷ ts) e = absurd (false≢true e)

not_end : (ts : Tokens) → 0 < length ts → is_end ts ≡ false
not_end [] lt = absurd (omega (arith, lt))
not_end (t ∷ ts) lt = refl

some_left : {cut : Bool} {g g' ts ts' : Tokens} → Tied cut g g' ts ts' → 0 < length ts'
    → 0 < length ts
some_left (end c) h = h
some_left (at_cut t c) h = omega arith
some_left (alike t x) h = omega arith

end_left : {cut : Bool} {g g' ts : Tokens} → Tied cut g g' ts [] → ts ≡ []
end_left (end c) = refl

module _ {A : Type 0} (R L : Rel (List A)) (after : Tokens → Tokens) (m : ℕ) (run : Tokens → Out (List A))
    (one' : Piece same_tree R any always always after m run)
    (to : (may : May) (xs : List A) (f t : Tokens) → Then R (λ x. EndTail L x) may xs f t
    → L may xs f t) (from : (may : May) (xs : List A) (f t : Tokens) → L may xs f t
    → Then R (λ x. EndTail L x) may xs f t)
    (strict : (may : May) (x : List A) (f t : Tokens) → R may x f t → length t < length f) where
  end_least : Least L after
  end_least may t fr fr' = let a = one'.least may t fr fr' in (a.0, to may _ _ t (a.0, t, a.1, end_here))

  end_appended : (x : List A) (u : Tokens) (out : Out (List A)) → Sound same_tree L at_end m u out
      → Sound same_tree (EndTail L x) at_end m u (and_then out (λ xs ts. Ok (x ++ xs, ts)))
  end_appended x u _ (read xs t a h) = read (x ++ xs) t
      (record { put = a.put; way = a.way; is = a.is; again = λ may w v. goes_on (a.again may w v) }) h
  end_appended x u _ (stuck s o) =
      stuck s (record {
        put = o.put;
        way = o.way;
        is = o.is;
        more = o.more;
        grows = o.grows;
        held = o.held;
        completes = λ v. let c = o.completes v in (x ++ c.0, goes_on c.1);
      })

  to_end_sound : (n : ℕ) (ts : Tokens) → Sound same_tree L at_end m ts (to_end run n ts)
  to_end_sound zero ts =
      stuck _ (record {
        put = λ u. u;
        way = stay;
        is = refl;
        more = after;
        grows = one'.grow;
        held = tt;
        completes = λ u. end_least _ u (frees_after m after one'.grow u)
            (λ q d le. frees_all m (after u) q d le);
      })
  to_end_sound (suc n) ts =
      turn to ts
      (seq_sound same_tree same_tree R (λ x. EndTail L x) always at_end m ts (run ts) _ (λ t. t)
      (λ t. omega arith) (λ x may t fr fr'. (x, end_here)) (one'.sound ts tt)
      (λ x u _. split_if (Sound same_tree (EndTail L x) at_end m u) (is_end u) _ _
      (λ e. read x u (record { put = λ v. v; way = stay; is = refl; again = λ may w v. end_here })
      (is_end_is u e))
      (λ e. end_appended x u (to_end run n u) (to_end_sound n u))))

  L_some : (may : May) (xs : List A) (f t : Tokens) → L may xs f t → 0 < length f
  L_some may xs f t l = let r = from may xs f t l in let h = strict may r.0 f r.1 r.2 in omega arith

  end_turn : (cut : Bool) (g g' : Tokens) (may : May) (n : ℕ)
      → ((xs : List A) (f' t' : Tokens) → L may xs f' t' → t' ≡ [] → (f : Tokens) → length f < n
      → Tied cut g g' f f' → Lands cut g g' may m (to_end run n f) (λ to. Ok (xs, to)) t')
      → (f : Tokens) → length f < suc n → (x ys : List A) (u t' : Tokens) → EndTail L x may ys u t'
      → t' ≡ [] → (mid : Tokens) → length mid < length f → Tied cut g g' mid u
      → Lands cut g g' may m (cond (is_end mid) (Ok (x, mid))
      (and_then (to_end run n mid) (λ xs ts. Ok (x ++ xs, ts)))) (λ to. Ok (ys, to)) t'
  end_turn cut g g' may n below f lt x _ _ t' end_here z mid sh tm =
      let e = end_left (subst (λ (u : Tokens). Tied cut g g' mid u) z tm) in
      good mid tm (if_true (is_end mid) _ _ (ap is_end e))
  end_turn cut g g' may n below f lt x _ u t' (goes_on {xs = ys} h) z mid sh tm =
      lands_by cut g g' may m (if_false (is_end mid) _ _
      (not_end mid (some_left tm (L_some may ys u t' h))))
      (bind_lands cut g g' may m ys (to_end run n mid) (λ xs ts. Ok (x ++ xs, ts))
      (λ to. Ok (x ++ ys, to)) t' t' (below ys u t' h z mid (omega (arith, sh, lt)) tm)
      (λ ys w le. fine cut g g' le) (λ mid2 t2 i2. good mid2 t2 refl))

  to_end_complete : (cut : Bool) (g g' : Tokens) (may : May) (n : ℕ) (xs : List A) (f' t' : Tokens)
      → L may xs f' t' → t' ≡ [] → (f : Tokens) → length f < n → Tied cut g g' f f'
      → Lands cut g g' may m (to_end run n f) (λ to. Ok (xs, to)) t'
  to_end_complete cut g g' may zero xs f' t' l z f lt tied = absurd (omega (arith, lt))
  to_end_complete cut g g' may (suc n) xs f' t' l z f lt tied =
      let r = from may xs f' t' l in
      bind_lands cut g g' may m r.0 (run f) _ (λ to. Ok (xs, to)) r.1 t'
      (one'.complete cut g g' may r.0 f' r.1 r.2 tt f tied)
      (λ y v le. short_if cut g g' (is_end v) _ _ (fine cut g g' le)
      (short_then cut g g' (to_end run n v) _
      (record {
        le = trans_le (sound_short same_tree L at_end m v (to_end run n v)
            (to_end_sound n v)) le;
      }) (λ ys w le. fine cut g g' le)))
      (λ mid tm i. end_turn cut g g' may n
      (λ xs f' t' l z f lt tied. to_end_complete cut g g' may n xs f' t' l z f lt tied) f lt r.0
      xs r.1 t' r.3 z mid (read_shorter strict f r.0 (run f) mid (one'.sound f tt) i) tm)

  -- the parser of groups up to the end is sound and complete where that of one group is
  pub to_end_piece : Piece same_tree L any at_end at_end after m
      (λ ts. to_end run (suc (length ts)) ts)
  to_end_piece =
      record {
        grow = one'.grow;
        least = end_least;
        sound = λ ts h. to_end_sound (suc (length ts)) ts;
        complete =
            λ cut g g' may xs f' t' l e f tied. to_end_complete cut g g' may
            (suc (length f)) xs f' t' l e f (omega arith) tied;
      }
