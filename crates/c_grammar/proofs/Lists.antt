-- Lists of items between commas, each a piece of its own.
use Rattle.std.proofs.Common.{◌≡◌, ℕ, zero, suc, ◌<◌, ◌≤◌, Bool, true, false, cond, List, [], ◌∷◌}
use Rattle.std.proofs.Common.{length, Ok, refl, sym, ap, ◌∙◌, subst, arith, length-append}
use Rattle.std.proofs.lemmas.Bool.{false≢true}
use Rattle.c_tree.specs.declared.token.Mark.{Mark}
use Rattle.c_tree.specs.declared.token.Form.TheVariants as form
use Rattle.c_tree.specs.declared.token.Mark.TheVariants as mark
use Rattle.c_grammar.specs.Tokens.{Tokens, punct, May, within}
use Rattle.c_grammar.specs.inside.Numbers.{is_mark}
use Rattle.c_grammar.specs.inside.Parsing.{Out, and_then, syntax, tail, offset_of, is_next, expect}
use Rattle.c_grammar.specs.inside.Parsing.{closes, listed, listed_on}
use Rattle.c_grammar.proofs.Numbers.{mark_self}
use Rattle.c_grammar.proofs.Agree.{split_if, if_true, if_false, trans_le, next_is, tail_short, stay}
use Rattle.c_grammar.proofs.Agree.{one, Grows, frees_after, place, Tied, head_step, tied_first, Brief}
use Rattle.c_grammar.proofs.Agree.{fine, short_then, short_if, short_expect, Lands, good, past}
use Rattle.c_grammar.proofs.Agree.{lands_by, bind_lands}
use Rattle.c_grammar.proofs.Pieces.{Rel, Sound, read, stuck, Least, Then, always, any, Piece, seq_sound}
use Rattle.c_grammar.proofs.Pieces.{same_tree, sound_short, turn, prepend}

abbrev took : Tokens → Out ℕ
took ts = Ok (offset_of ts, tail ts)

-- items with commas between them, up to a mark
pub data Tail {A : Type 0} (L : Rel (List A)) (k : Mark) (trailing : Bool) (x : A) (may : May) : List A → Tokens
    → Tokens → Type 0 where
  ends : {l : ℕ} {t : Tokens} → Tail L k trailing x may (x ∷ []) (punct l k ∷ t) t
  trails : {l l' : ℕ} {t : Tokens} → trailing ≡ true
      → Tail L k trailing x may (x ∷ []) (punct l mark.Comma ∷ punct l' k ∷ t) t
  goes : {l : ℕ} {xs : List A} {u t : Tokens} → L may xs u t
      → Tail L k trailing x may (x ∷ xs) (punct l mark.Comma ∷ u) t

abbrev consed : {A : Type 0} → A → Rel (List A) → Rel (List A)
consed {A} x L may ys u t = (xs : List A) × L may xs u t × (ys ≡ x ∷ xs)

and_is : (b c : Bool) → cond b c false ≡ true → (b ≡ true) × (c ≡ true)
and_is true c e = (refl, e)
and_is false c e = absurd (false≢true e)

-- a part that takes a token at least reads up to a shorter list
pub read_shorter : {X A : Type 0} {tree : X → A} {R : Rel X} {m : ℕ}
    → ((may : May) (x : X) (f t : Tokens) → R may x f t → length t < length f)
    → (ts : Tokens) (v : A) (out : Out A) (mid : Tokens) → Sound tree R always m ts out
    → out ≡ Ok (v, mid) → length mid < length ts
read_shorter {m = m} h ts v _ mid (read y t a k) e =
    let i = h (within m) y (a.put []) [] (a.again (within m) (λ q d e. e) []) in
    omega (
      arith,
      i,
      ap length (a.way.law []),
      length-append a.way.front [],
      ap length (a.is ∙ a.way.law t),
      length-append a.way.front t,
      ap (λ (o : Out _). length (place o)) e,
    )
read_shorter h ts v _ mid (stuck s o) e = absurd cc

module _ {A : Type 0} (R : Rel A) (L : Rel (List A)) (Ends : A → Tokens → Type 0) (after : Tokens → Tokens) (m : ℕ)
    (run : Tokens → Out A) (item : Piece same_tree R any always Ends after m run) (k : Mark) (trailing : Bool)
    (to : (may : May) (xs : List A) (f t : Tokens) → Then R (λ x. Tail L k trailing x) may xs f t
    → L may xs f t) where
  consed_sound : (x : A) (u : Tokens) (out : Out (List A)) → Sound same_tree L always m u out
      → Sound same_tree (consed x L) always m u (and_then out (λ xs ts. Ok (x ∷ xs, ts)))
  consed_sound x u _ (read xs t a h) = read (x ∷ xs) t
      (record { put = a.put; way = a.way; is = a.is; again = λ may w v. (xs, a.again may w v, refl) })
      tt
  consed_sound x u _ (stuck s o) =
      stuck s (record {
        put = o.put;
        way = o.way;
        is = o.is;
        more = o.more;
        grows = o.grows;
        held = o.held;
        completes = λ v. let c = o.completes v in (x ∷ c.0, (c.0, c.1, refl));
      })

  listed_least : Least L (λ t. after (punct 0 k ∷ t))
  listed_least may t fr fr' =
      let a = item.least may (punct 0 k ∷ t) (λ q d le. fr' q d (trans_le le (item.grow (punct 0 k ∷ t)))) fr' in
      (a.0 ∷ [], to may _ _ t (a.0, punct 0 k ∷ t, a.1, ends))

  -- behind a comma
  comma_sound : (x : A) (n l : ℕ) → ((ts : Tokens)
      → Sound same_tree L always m ts (listed k trailing run n ts)) → (ts : Tokens)
      → Sound same_tree (λ may ys f t. Tail L k trailing x may ys (punct l mark.Comma ∷ f) t) always
      m ts
      (cond (closes k trailing ts) (Ok (x ∷ [], tail ts))
      (and_then (listed k trailing run n ts) (λ xs ts. Ok (x ∷ xs, ts))))
  comma_sound x n l below ts =
      split_if (Sound same_tree (λ may ys f t. Tail L k trailing x may ys
      (punct l mark.Comma ∷ f) t) always m ts) (closes k trailing ts) _ _
      (λ e. let h = and_is trailing (is_next k ts) e in
      read (x ∷ []) (tail ts) (record {
        put = λ u. punct (offset_of ts) k ∷ u;
        way = one _;
        is = next_is k ts h.1;
        again = λ may w u. trails h.0;
      }) tt)
      (λ e. turn (λ may ys f t r. subst (λ (ys : List A). Tail L k trailing x may ys
      (punct l mark.Comma ∷ f) t) (sym r.2) (goes r.1)) ts
      (consed_sound x ts (listed k trailing run n ts) (below ts)))

  tail_sound : (x : A) (n : ℕ) → ((ts : Tokens)
      → Sound same_tree L always m ts (listed k trailing run n ts)) → (ts : Tokens)
      → Sound same_tree (Tail L k trailing x) always m ts (listed_on k trailing run n x ts)
  tail_sound x n below ts =
      split_if (Sound same_tree (Tail L k trailing x) always m ts) (is_next mark.Comma ts) _ _
      (λ e. prepend (punct (offset_of ts) mark.Comma) ts (next_is mark.Comma ts e) (λ may ys f t r. r)
      (comma_sound x n (offset_of ts) below (tail ts)))
      (λ _. closing (is_next k ts) refl)
    where
      closing : (b : Bool) → is_next k ts ≡ b
          → Sound same_tree (Tail L k trailing x) always m ts
          (and_then (cond b (took ts) (syntax ts)) (λ _ ts. Ok (x ∷ [], ts)))
      closing true e = read (x ∷ []) (tail ts)
          (record {
            put = λ u. punct (offset_of ts) k ∷ u;
            way = one _;
            is = next_is k ts e;
            again = λ may w u. ends;
          }) tt
      closing false e = stuck _ (record {
        put = λ u. u;
        way = stay;
        is = refl;
        more = λ u. punct 0 k ∷ u;
        grows = λ u. omega arith;
        held = tt;
        completes =
            λ u. (x ∷ [], ends);
      })

  pub listed_sound : (n : ℕ) (ts : Tokens)
      → Sound same_tree L always m ts (listed k trailing run n ts)
  listed_sound zero ts =
      stuck _ (record {
        put = λ u. u;
        way = stay;
        is = refl;
        more = λ u. after (punct 0 k ∷ u);
        grows = grows_all;
        held = tt;
        completes = λ u. listed_least _ u (frees_after m (λ u. after (punct 0 k ∷ u)) grows_all u)
            (λ q d le. frees_after m (λ u. u) (λ u. omega arith) (after (punct 0 k ∷ u)) q d le);
      })
    where
      grows_all : Grows (λ u. after (punct 0 k ∷ u))
      grows_all u = trans_le (omega arith) (item.grow (punct 0 k ∷ u))
  listed_sound (suc n) ts =
      turn to ts
      (seq_sound same_tree same_tree R (λ x. Tail L k trailing x) always always m ts (run ts)
      (listed_on k trailing run n) (λ t. punct 0 k ∷ t) (λ t. omega arith)
      (λ x may t fr fr'. (x ∷ [], ends)) (item.sound ts tt)
      (λ x u _. tail_sound x n (listed_sound n) u))

  module _ (from : (may : May) (xs : List A) (f t : Tokens) → L may xs f t
      → Then R (λ x. Tail L k trailing x) may xs f t) (comma_not : is_mark mark.Comma (form.Mark k) ≡ false)
      (meets : (x : A) (l : ℕ) (t : Tokens) → Ends x (punct l mark.Comma ∷ t) × Ends x (punct l k ∷ t))
      (begins : (may : May) (xs : List A) (f t : Tokens) → L may xs f t → trailing ≡ true
      → is_next k f ≡ false) where
    behind_short : (cut : Bool) (g g' : Tokens) (n : ℕ) (x : A) (r : Tokens) → length r ≤ length g
        → Brief cut g g' (cond (closes k trailing r) (Ok (x ∷ [], tail r))
        (and_then (listed k trailing run n r) (λ xs ts. Ok (x ∷ xs, ts))))
    behind_short cut g g' n x r le =
        short_if cut g g' (closes k trailing r) _ _
        (fine cut g g' (omega (arith, tail_short r, le)))
        (short_then cut g g' (listed k trailing run n r) _
        (record {
          le = trans_le (sound_short same_tree L always m r (listed k trailing run n r)
              (listed_sound n r)) le;
        }) (λ ys w le. fine cut g g' le))

    tail_brief : (cut : Bool) (g g' : Tokens) (n : ℕ) (x : A) (r : Tokens) → length r ≤ length g
        → Brief cut g g' (listed_on k trailing run n x r)
    tail_brief cut g g' n x r le =
        short_if cut g g' (is_next mark.Comma r) _ _
        (behind_short cut g g' n x (tail r) (omega (arith, tail_short r, le)))
        (short_expect cut g g' k r _ le (λ _ w le. fine cut g g' le))

    not_closing : (cut : Bool) (g g' : Tokens) (b : Bool) → trailing ≡ b → (r v : Tokens)
        → Tied cut g g' r v → (trailing ≡ true → is_next k v ≡ false) → closes k b r ≡ false
    not_closing cut g g' true e r v tr h = tied_first cut g g' (is_mark k) tr ∙ h e
    not_closing cut g g' false e r v tr h = refl

    closing_here : (b : Bool) → b ≡ true → (r : Tokens) → is_next k r ≡ true → closes k b r ≡ true
    closing_here true e r h = h
    closing_here false e r h = absurd (false≢true e)

    tail_lands : (cut : Bool) (g g' : Tokens) (may : May) (n : ℕ)
        → ((xs : List A) (f' t' : Tokens) → L may xs f' t' → (f : Tokens) → length f < n
        → Tied cut g g' f f' → Lands cut g g' may m (listed k trailing run n f)
        (λ to. Ok (xs, to)) t')
        → (x : A) (ys : List A) (u t' : Tokens) → Tail L k trailing x may ys u t' → (mid : Tokens)
        → length mid < suc n → Tied cut g g' mid u
        → Lands cut g g' may m (listed_on k trailing run n x mid) (λ to. Ok (ys, to)) t'
    tail_lands cut g g' may n below x _ _ t' (ends {l = l}) mid lt tm =
        lands_by cut g g' may m (if_false (is_next mark.Comma mid) _ _
        (tied_first cut g g' (is_mark mark.Comma) tm ∙ comma_not))
        (head_step cut g g' (λ u. Lands cut g g' may m
        (and_then (expect k u) (λ _ ts. Ok (x ∷ [], ts))) (λ to. Ok (x ∷ [], to)) t') tm
        (λ r tr. good r tr (ap (λ (o : Out ℕ). and_then o (λ _ ts. Ok (x ∷ [], ts)))
        (if_true _ _ _ (mark_self k))))
        (λ c. past c (record {
          le = omega (
            arith,
            ap (λ (o : Out (List A)). length (place o))
                (ap (λ (o : Out ℕ). and_then o (λ _ ts. Ok (x ∷ [], ts)))
                (if_true (is_next k (punct l k ∷ g)) (took (punct l k ∷ g)) (syntax (punct l k ∷ g))
                (mark_self k))),
          );
        })))
    tail_lands cut g g' may n below x _ _ t' (trails {l = l} {l' = l'} yes') mid lt tm =
        lands_by cut g g' may m (if_true (is_next mark.Comma mid) _ _
        (tied_first cut g g' (is_mark mark.Comma) tm))
        (head_step cut g g' (λ w. Lands cut g g' may m
        (cond (closes k trailing (tail w)) (Ok (x ∷ [], tail (tail w)))
        (and_then (listed k trailing run n (tail w)) (λ xs ts. Ok (x ∷ xs, ts))))
        (λ to. Ok (x ∷ [], to)) t') tm
        (λ r tr. lands_by cut g g' may m (if_true _ _ _
        (closing_here trailing yes' r (tied_first cut g g' (is_mark k) tr ∙ mark_self k)))
        (head_step cut g g' (λ w. Lands cut g g' may m (one_here (tail w)) one_here t') tr
        (λ z tz. good z tz refl) (λ c. past c (fine cut g g' (omega arith)))))
        (λ c. past c (behind_short cut g g' n x g (omega arith))))
      where
        one_here : Tokens → Out (List A)
        one_here t = Ok (x ∷ [], t)
    tail_lands cut g g' may n below x _ _ t' (goes {l = l} {xs = xs} {u = v} h) mid lt tm =
        lands_by cut g g' may m (if_true (is_next mark.Comma mid) _ _
        (tied_first cut g g' (is_mark mark.Comma) tm))
        (head_step cut g g' (λ w. length w < suc n
        → Lands cut g g' may m (cond (closes k trailing (tail w)) (Ok (x ∷ [], tail (tail w)))
        (and_then (listed k trailing run n (tail w)) (λ xs ts. Ok (x ∷ xs, ts))))
        (λ to. Ok (x ∷ xs, to)) t') tm
        (λ r tr lt. lands_by cut g g' may m
        (if_false _ _ _ (not_closing cut g g' trailing refl r v tr (begins may xs v t' h)))
        (bind_lands cut g g' may m xs (listed k trailing run n r) (λ xs ts. Ok (x ∷ xs, ts))
        (λ to. Ok (x ∷ xs, to)) t' t' (below xs v t' h r (omega (arith, lt)) tr)
        (λ ys w le. fine cut g g' le) (λ mid2 t2 i2. good mid2 t2 refl)))
        (λ c lt. past c (behind_short cut g g' n x g (omega arith)))
        lt)

    -- what follows an item of a list is what an item may end at
    pub tail_meets : (may : May) (x : A) (ys : List A) (u t : Tokens)
        → Tail L k trailing x may ys u t → Ends x u
    tail_meets may x _ _ t (ends {l = l}) = (meets x l t).1
    tail_meets may x _ _ t (trails {l = l} {l' = l'} e) = (meets x l (punct l' k ∷ t)).0
    tail_meets may x _ _ t (goes {l = l} {u = u} h) = (meets x l u).0

    pub listed_complete : (cut : Bool) (g g' : Tokens) (may : May) (n : ℕ) (xs : List A)
        (f' t' : Tokens) → L may xs f' t' → (f : Tokens) → length f < n → Tied cut g g' f f'
        → Lands cut g g' may m (listed k trailing run n f) (λ to. Ok (xs, to)) t'
    listed_complete cut g g' may zero xs f' t' l f lt tied = absurd (omega (arith, lt))
    listed_complete cut g g' may (suc n) xs f' t' l f lt tied =
        let r = from may xs f' t' l in
        bind_lands cut g g' may m r.0 (run f) (listed_on k trailing run n)
        (λ to. Ok (xs, to)) r.1 t' (item.complete cut g g' may r.0 f' r.1 r.2
        (tail_meets may r.0 xs r.1 t' r.3) f tied) (λ y v le. tail_brief cut g g' n y v le)
        (λ mid tm i. tail_lands cut g g' may n
        (λ xs f' t' l f lt tied. listed_complete cut g g' may n xs f' t' l f lt tied) r.0 xs r.1
        t' r.3 mid
        (omega (
          arith,
          lt,
          sound_short same_tree R always m f (run f) (item.sound f tt),
          ap (λ (o : Out A). length (place o)) i,
        )) tm)

    -- the parser of a list with commas is sound and complete where that of its items is
    pub listed_piece : Piece same_tree L any always always (λ t. after (punct 0 k ∷ t)) m
        (λ ts. listed k trailing run (suc (length ts)) ts)
    listed_piece =
        record {
          grow = λ u. trans_le (omega arith) (item.grow (punct 0 k ∷ u));
          least = listed_least;
          sound = λ ts h. listed_sound (suc (length ts)) ts;
          complete = λ cut g g' may xs f' t' l e f tied. listed_complete cut g g' may
              (suc (length f)) xs f' t' l f (omega arith) tied;
        }

    -- behind an item, for the text that is left
    pub tail_piece : (x : A) → Piece same_tree (Tail L k trailing x) any always always
        (λ t. punct 0 k ∷ t) m (λ ts. listed_on k trailing run (length ts) x ts)
    tail_piece x =
        record {
          grow = λ t. omega arith;
          least = λ may t fr fr'. (x ∷ [], ends);
          sound = λ ts h. tail_sound x (length ts) (listed_sound (length ts)) ts;
          complete = λ cut g g' may xs u t' r e mid tm. tail_lands cut g g' may (length mid)
              (λ xs f' t' l f lt tied. listed_complete cut g g' may (length mid) xs f' t' l f lt tied)
              x xs u t' r mid (omega arith) tm;
        }
