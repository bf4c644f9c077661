-- Pieces behind a mark that opens a depth.
use Rattle.std.proofs.Common.{◌≡◌, ℕ, suc, ◌≤◌, Bool, true, false, cond, leb, ◌∷◌, length, Ok, refl}
use Rattle.std.proofs.Common.{sym, ap, ◌∙◌, subst, arith}
use Rattle.c_tree.specs.declared.token.Mark.{Mark}
use Rattle.c_grammar.specs.Tokens.{Tokens, punct}
use Rattle.c_grammar.specs.Places.{before}
use Rattle.c_grammar.specs.inside.Numbers.{is_mark}
use Rattle.c_grammar.specs.inside.Parsing.{Out, and_then, syntax, too_deep, tail, offset_of, is_next}
use Rattle.c_grammar.specs.inside.ModelDepth.{Nested, enter}
use Rattle.c_grammar.proofs.Numbers.{mark_self}
use Rattle.c_grammar.proofs.Agree.{split_if, if_true, next_is, stay, one, Grows, frees_after, frees_all}
use Rattle.c_grammar.proofs.Agree.{place, Tied, head_step, tied_first, Lands, good, past, deep}
use Rattle.c_grammar.proofs.Pieces.{Rel, stuck, Sound, read, Complete, Least, Then, always, any}
use Rattle.c_grammar.proofs.Pieces.{same_tree, Piece, seq}

-- the depth that may still be opened
abbrev pub Reach : Nested → ℕ → ℕ → Type 0
Reach nested m d = (nested.allowed ≡ true → leb (suc d) m ≡ true)
    × (nested.allowed ≡ false → leb (suc d) m ≡ false)

-- the spelling of a mark that opens a depth, where it may
abbrev pub OpenIs : Mark → ℕ → Rel ℕ
OpenIs k d may l f t = (f ≡ punct l k ∷ t) × (may (punct l k ∷ t) (suc d) ≡ true)

abbrev enter_by : Bool → Mark → Tokens → Out ℕ
enter_by b k ts = cond (is_next k ts) (cond b (Ok (offset_of ts, tail ts)) (too_deep ts)) (syntax ts)

open_piece : (k : Mark) (m d : ℕ) → leb (suc d) m ≡ true
    → Piece same_tree (OpenIs k d) any always always (λ t. punct 0 k ∷ t) m (enter_by true k)
open_piece k m d ok =
    record {
      grow = λ t. omega arith;
      least = λ may t fr fr'. (0, (refl, fr' (punct 0 k ∷ t) (suc d) (omega arith)));
      sound = λ ts h.
          split_if (Sound same_tree (OpenIs k d) always m ts) (is_next k ts) _ _
          (λ e. read (offset_of ts) (tail ts)
          (record {
            put = λ u. punct (offset_of ts) k ∷ u;
            way = one _;
            is = next_is k ts e;
            again = λ may w u. (refl, w _ (suc d) ok);
          }) tt)
          (λ e. stuck _ (record {
            put = λ u. u;
            way = stay;
            is = refl;
            more = λ u. punct 0 k ∷ u;
            grows = λ u. omega arith;
            held = tt;
            completes = λ u. (
              0,
              (
                refl,
                frees_all m (punct 0 k ∷ u) (punct 0 k ∷ u) (suc d)
                    (omega arith),
              ),
            );
          }));
      complete = λ cut g g' may l f' t' r e f tied.
          head_step cut g g' (λ u. Lands cut g g' may m (enter_by true k u) (λ to. Ok (l, to)) t')
          (subst (λ (u : Tokens). Tied cut g g' f u) r.0 tied)
          (λ v tv. good v tv (if_true _ _ _ (mark_self k)))
          (λ c. past c (record { le = at_cut l g }));
    }
  where
    at_cut : (l : ℕ) (g : Tokens) → length (place (enter_by true k (punct l k ∷ g))) ≤ length g
    at_cut l g = rw (mark_self k) (omega arith)

module _ {Y B : Type 0} (tree : Y → B) (S : ℕ → Rel Y) (Kept Ends : Y → Tokens → Type 0) (after : Tokens → Tokens)
    (m d : ℕ) (k : Mark) (f : ℕ → Tokens → Out B)
    (grow : Grows after) (least : (l : ℕ) → Least (S l) after) where
  abbrev Whole : Rel Y
  Whole = Then (OpenIs k d) S

  barred_least : Least Whole (λ t. punct 0 k ∷ after t)
  barred_least may t fr fr' =
      let l = least 0 may t fr (λ q d le. fr' q d (omega (arith, le))) in
      (l.0, (0, after t, (refl, fr' (punct 0 k ∷ after t) (suc d) (omega arith)), l.1))

  barred_sound : (ts : Tokens) → Sound tree Whole Kept m ts (and_then (enter_by false k ts) f)
  barred_sound ts = split_if (λ (o : Out ℕ). Sound tree Whole Kept m ts (and_then o f))
      (is_next k ts) _ _ held missing
    where
      grown : (l : ℕ) → Grows (λ u. punct l k ∷ after u)
      grown l u = omega (arith, grow u)

      whole : (l : ℕ) (u : Tokens) → (y : Y)
          × Whole (before m (punct l k ∷ after u)) y (punct l k ∷ after u) u
      whole l u =
          let more : Tokens → Tokens = λ w. punct l k ∷ after w in
          let a = least l (before m (more u)) u (frees_after m more (grown l) u)
          (frees_after m (λ w. punct l k ∷ w) (λ w. omega arith) (after u)) in
          (a.0, (l, after u, (refl, frees_all m (more u) (more u) (suc d) (omega arith)), a.1))

      held : is_next k ts ≡ true → Sound tree Whole Kept m ts (too_deep ts)
      held e =
          stuck _ (record {
            put = λ u. u;
            way = stay;
            is = refl;
            more = λ u. punct (offset_of ts) k ∷ after u;
            grows = grown (offset_of ts);
            held = (punct (offset_of ts) k, tail ts, after, next_is k ts e, λ u. refl);
            completes = whole (offset_of ts);
          })

      missing : is_next k ts ≡ false → Sound tree Whole Kept m ts (syntax ts)
      missing e = stuck _ (record {
        put = λ u. u;
        way = stay;
        is = refl;
        more = λ u. punct 0 k ∷ after u;
        grows = grown 0;
        held = tt;
        completes = whole 0;
      })

  barred_complete : leb (suc d) m ≡ false
      → Complete tree Whole Ends m (λ ts. and_then (enter_by false k ts) f)
  barred_complete nope cut g g' may y f' t' r e from tied =
      let o = r.2 in
      deep from f' (suc d) tied (ap (λ (o : Out ℕ). and_then o f)
      (if_true (is_next k from) _ _ (tied_first cut g g' (is_mark k) tied ∙ ap (is_next k) o.0
      ∙ mark_self k)))
      (subst (λ (u : Tokens). may u (suc d) ≡ true) (sym o.0) o.1) nope

  opening_by : (b : Bool) → (b ≡ true → leb (suc d) m ≡ true) → (b ≡ false → leb (suc d) m ≡ false)
      → (b ≡ true → (l : ℕ) → Piece tree (S l) any Kept Ends after m (f l))
      → Piece tree Whole any Kept Ends (λ t. punct 0 k ∷ after t) m
      (λ ts. and_then (enter_by b k ts) f)
  opening_by true aye nope rest = seq f (open_piece k m d (aye refl)) (λ l. rest refl l) grow
      (λ may x y u t r h. tt)
  opening_by false aye nope rest =
      record {
        grow = λ t. omega (arith, grow t);
        least = barred_least;
        sound = λ ts h. barred_sound ts;
        complete = barred_complete (nope refl);
      }

  -- a part behind a mark that opens a depth is sound and complete where the part is
  pub opening : (nested : Nested) → Reach nested m d
      → (nested.allowed ≡ true → (l : ℕ) → Piece tree (S l) any Kept Ends after m (f l))
      → Piece tree Whole any Kept Ends (λ t. punct 0 k ∷ after t) m
      (λ ts. and_then (enter k nested ts) f)
  opening nested reach rest = opening_by nested.allowed reach.0 reach.1 rest
