-- A part that reads up to the end accepts exactly what is spelled, and stops exactly where the
-- fault stands.
use Rattle.std.proofs.Common.{◌≡◌, ℕ, suc, ◌<◌, Bool, true, false, leb, ◌||◌, [], ◌∷◌, ◌++◌, length, Ok}
use Rattle.std.proofs.Common.{Err, refl, sym, ap, ◌∙◌, subst, append_assoc, arith, length-append}
use Rattle.std.proofs.lemmas.Bool.{false≢true, leb-true, le-leb}
use Rattle.c_tree.specs.declared.token.Lexeme.{Lexeme}
use Rattle.c_grammar.specs.Tokens.{Tokens, May, within}
use Rattle.c_grammar.specs.inside.Parsing.{Stop, Out, too_deep}
use Rattle.c_grammar.specs.Places.{StartsWithin, StartsBut, FaultAt, StartsLate, before, late}
use Rattle.c_grammar.specs.Places.{any_depth}
use Rattle.c_grammar.specs.inside.Places.{Exact}
use Rattle.c_grammar.specs.Accepted.{Spelled}
use Rattle.c_grammar.specs.inside.Places.{settle, settle_stop}
use Rattle.c_grammar.proofs.Agree.{place, Tied, end, at_cut, alike, Lands, good, past, deep}
use Rattle.c_grammar.proofs.Pieces.{Rel, Open, Sound, read, stuck, any, Piece, same_tree}
use Rattle.c_grammar.proofs.EndedLists.{at_end}
use Rattle.c_grammar.proofs.Late.{Passes}

tie : (front : Tokens) (t : Lexeme) (g g' : Tokens)
    → Tied true g g' (front ++ t ∷ g) (front ++ t ∷ g')
tie [] t g g' = at_cut t refl
tie (x ∷ front) t g g' = alike x (tie front t g g')

same : (ts : Tokens) → Tied false [] [] ts ts
same [] = end refl
same (t ∷ ts) = alike t (same ts)

tied_end : {cut : Bool} {g g' ts : Tokens} → Tied cut g g' ts [] → ts ≡ []
tied_end (end c) = refl

tied_longer : {g g' ts ts' : Tokens} → Tied true g g' ts ts' → length g' < length ts'
tied_longer (end c) = absurd (false≢true (sym c))
tied_longer (at_cut t c) = omega arith
tied_longer (alike t x) = let h = tied_longer x in omega arith

both_ways : (b : Bool) → b ≡ true → b ≡ false → ⊥
both_ways b p q = false≢true (sym q ∙ p)

if_longer : (a b : ℕ) (c : Bool) → b < a → leb a b || c ≡ true → c ≡ true
if_longer a b true lt e = refl
if_longer a b false lt e = absurd (longer (leb a b) refl e)
  where
    longer : (x : Bool) → leb a b ≡ x → x || false ≡ true → ⊥
    longer true h e = let h' = leb-true a b h in omega (arith, h', lt)
    longer false h e = false≢true e

append_nil : (xs : Tokens) → xs ++ [] ≡ xs
append_nil [] = refl
append_nil (x ∷ xs) = ap (λ (u : Tokens). x ∷ u) (append_nil xs)

abbrev err : {A : Type 0} → Stop → Out A
err s = Err s

-- where a test follows from another, it does so beside a third
pub or_mono : (a b c : Bool) → (a ≡ true → b ≡ true) → a || c ≡ true → b || c ≡ true
or_mono true b c h e = by b (h refl)
  where
    by : (b : Bool) → b ≡ true → b || c ≡ true
    by true i = refl
    by false i = absurd (false≢true i)
or_mono false true c h e = refl
or_mono false false c h e = e

pub late_of : (m : ℕ) (rest q : Tokens) (d : ℕ) → before m rest q d ≡ true → late m rest q d ≡ true
late_of m rest q d e =
    or_mono (leb (length q) (length rest)) (leb (length q) (suc (length rest))) (leb d m)
    (λ h. let h' = leb-true (length q) (length rest) h in le-leb (length q) (suc (length rest))
    (omega (arith, h'))) e

same_length : {ts ts' : Tokens} → Tied false [] [] ts ts' → length ts ≡ length ts'
same_length (end c) = refl
same_length (at_cut t c) = absurd (false≢true c)
same_length (alike t x) = ap suc (same_length x)

-- two tokens from here on at least
two : May
two q d = leb 2 (length q)

module _ {X : Type 0} (R : Rel X) (after : Tokens → Tokens) (m : ℕ) (run : Tokens → Out X)
    (p : Piece same_tree R any at_end at_end after m run)
    (far : (may may' : May) (x : X) (f : Tokens) → Passes may may' 1 → R may x f [] → R may' x f []) where
  stops_same : (s s' : Stop) (a b : Out X) → a ≡ Err s → b ≡ Err s' → a ≡ b → s ≡ s'
  stops_same s s' a b p q r = let h : err {A = X} s ≡ err s' = sym p ∙ r ∙ q in cc

  not_okay : (ts : Tokens) (s : Stop) (a : X) (to : Tokens) → run ts ≡ Err s → run ts ≡ Ok (a, to)
      → ⊥
  not_okay ts s a to h i = let j : err {A = X} s ≡ Ok (a, to) = sym h ∙ i in cc

  -- what is spelled is accepted, with this tree
  pub only : (ts : Tokens) (x : X) → Spelled R m x ts → run ts ≡ Ok (x, [])
  only ts x r = by (p.complete false [] [] (within m) x ts [] r refl ts (same ts))
    where
      by : Lands false [] [] (within m) m (run ts) (λ to. Ok (x, to)) [] → run ts ≡ Ok (x, [])
      by (good to t i) = i ∙ ap (λ (u : Tokens). Ok (x, u)) (tied_end t)
      by (past c l) = absurd (false≢true c)
      by (deep q q' d t i y n) = absurd (both_ways _ y n)

  -- no list that begins with the tokens up to a fault is spelled under a test, but for a depth
  refuses : (may : May) (ts g g' : Tokens) (t : Lexeme) (x : X) (s : Stop) → run ts ≡ Err s
      → s.rest ≡ t ∷ g → Lands true g g' may m (run ts) (λ to. Ok (x, to)) []
      → ((q q' : Tokens) (d : ℕ) → Tied true g g' q q' → s ≡ record { deep = true; rest = q }
      → may q' d ≡ true → leb d m ≡ false → ⊥) → ⊥
  refuses may ts g g' t x s h r (good to u i) k = not_okay ts s x to h i
  refuses may ts g g' t x s h r (past c l) k =
      omega (arith, l.le, ap (λ (o : Out X). length (place o)) h, ap length r)
  refuses may ts g g' t x s h r (deep q q' d u i y n) k =
      k q q' d u (stops_same s _ (run ts) (too_deep q) h refl i) y n

  no_tree : (may : May) (ts : Tokens) (x : X) (s : Stop) → run ts ≡ Err s
      → Lands false [] [] may m (run ts) (λ to. Ok (x, to)) []
      → ((q q' : Tokens) (d : ℕ) → Tied false [] [] q q' → s ≡ record { deep = true; rest = q }
      → may q' d ≡ true → ⊥) → ⊥
  no_tree may ts x s h (good to u i) k = not_okay ts s x to h i
  no_tree may ts x s h (past c l) k = false≢true c
  no_tree may ts x s h (deep q q' d u i y n) k =
      k q q' d u (stops_same s _ (run ts) (too_deep q) h refl i) y

  starts_open : (ts : Tokens) (s : Stop) → Open R m ts s
      → (front : Tokens) × (ts ≡ front ++ s.rest) × StartsWithin R m front
  starts_open ts s o =
      let c = o.completes [] in (
        o.way.front,
        o.is ∙ o.way.law s.rest,
        (
          o.more [],
          c.0,
          subst (λ (u : Tokens). R (before m (o.more [])) c.0 u [])
              (o.way.law (o.more [])) c.1,
        ),
      )

  starts_deep : (ts q : Tokens) → Open R m ts (record { deep = true; rest = q })
      → (front : Tokens) × (t : Lexeme) × (back : Tokens) × (q ≡ t ∷ back) × (ts ≡ front ++ t ∷ back)
      × StartsBut R m front t
  starts_deep ts q o =
      let c = o.completes [] in
      let h = o.held in
      let e = h.4 [] in (
        o.way.front,
        h.0,
        h.1,
        h.3,
        o.is ∙ o.way.law q ∙ ap (λ (u : Tokens). o.way.front ++ u) h.3,
        (
          h.2 [],
          c.0,
          subst (λ (u : Tokens). R (before m u) c.0 (o.way.front ++ u) []) e
              (subst (λ (u : Tokens). R (before m (o.more [])) c.0 u []) (o.way.law (o.more [])) c.1),
        ),
      )

  early_late : (ts : Tokens) → StartsWithin R m ts → StartsLate R m ts
  early_late ts w = (
    w.0,
    w.1,
    far (before m w.0) (late m w.0) w.1 (ts ++ w.0)
        (λ q d lt e. late_of m w.0 q d e) w.2,
  )

  Settled : Tokens → Bool → Tokens → Type 0
  Settled ts deep' rest = let s = settle_stop deep' rest in FaultAt R m ts s.deep s.rest

  fault_at : (ts : Tokens) (deep' : Bool) (rest : Tokens)
      → Open R m ts (record { deep = deep'; rest = rest })
      → run ts ≡ Err (record { deep = deep'; rest = rest }) → Settled ts deep' rest
  unfolding Settled two
  fault_at ts false [] o h =
      let a = starts_open ts _ o in
      record {
        starts = early_late ts (subst (λ (u : Tokens). StartsWithin R m u)
            (sym (a.1 ∙ append_nil a.0)) a.2);
        is_none = λ x r. no_tree any_depth ts x _ h
            (p.complete false [] [] any_depth x ts [] r refl ts (same ts))
            (λ q q' d u i y. false≢true (ap (λ (s : Stop). s.deep) i));
      }
  fault_at ts false (t ∷ back) o h =
      let a = starts_open ts _ o in (
        a.0,
        record {
          split = a.1;
          before_it = a.2;
          with_it = λ w.
              let r = subst (λ (u : Tokens). R any_depth w.1 u []) (append_assoc a.0 (t ∷ []) w.0) w.2 in
              let tied = subst (λ (u : Tokens). Tied true back w.0 u (a.0 ++ t ∷ w.0)) (sym a.1)
              (tie a.0 t back w.0) in
              refuses any_depth ts back w.0 t w.1 _ h refl
              (p.complete true back w.0 any_depth w.1 (a.0 ++ t ∷ w.0) [] r refl ts tied)
              (λ q q' d u i y n. false≢true (ap (λ (s : Stop). s.deep) i));
        },
      )
  fault_at ts true [] o h =
      let a = starts_deep ts [] o in
      let i = a.3 in cc
  -- the last token: no opener is the last one of a text
  fault_at ts true (t ∷ []) o h =
      let a = starts_deep ts (t ∷ []) o in
      let w = a.5 in
      let i = a.3 in
      let ib : [] ≡ a.2 = cc in
      let split : ts ≡ a.0 ++ a.1 ∷ [] = a.4 ∙ ap (λ (u : Tokens). a.0 ++ a.1 ∷ u) (sym ib) in
      record {
        starts = (
          w.0,
          w.1,
          subst (λ (u : Tokens). R (late m w.0) w.1 u [])
              (sym (ap (λ (u : Tokens). u ++ w.0) split ∙ append_assoc a.0 (a.1 ∷ []) w.0)) w.2,
        );
        is_none = λ x r. no_tree two ts x _ h
            (p.complete false [] [] two x ts []
            (far any_depth two x ts (λ q d lt e. le-leb 2 (length q) (omega (arith, lt))) r) refl ts
            (same ts))
            (λ q q' d u i y. let y' = leb-true 2 (length q') y in omega (
              arith,
              y',
              same_length u,
              ap (λ (s : Stop). length (s.rest)) i,
            ));
      }
  fault_at ts true (t ∷ t' ∷ back') o h =
      let back = t' ∷ back' in
      let a = starts_deep ts (t ∷ back) o in
      let i = a.3 in
      let it : t ≡ a.1 = cc in
      let ib : back ≡ a.2 = cc in
      let split : ts ≡ a.0 ++ t ∷ back = a.4 ∙ ap (λ (u : Tokens). a.0 ++ u) (sym i) in (
        a.0,
        record {
          split = split;
          but_for_it = subst (λ (u : Lexeme). StartsBut R m a.0 u) (sym it) a.5;
          with_it = λ w.
              let r = subst (λ (u : Tokens). R (before m w.0) w.1 u []) (append_assoc a.0 (t ∷ []) w.0) w.2 in
              let tied = subst (λ (u : Tokens). Tied true back w.0 u (a.0 ++ t ∷ w.0)) (sym split)
              (tie a.0 t back w.0) in
              refuses (before m w.0) ts back w.0 t w.1 _ h refl
              (p.complete true back w.0 (before m w.0) w.1 (a.0 ++ t ∷ w.0) [] r refl ts tied)
              (λ q q' d u i y n. both_ways (leb d m)
              (if_longer (length q') (length w.0) (leb d m) (tied_longer u) y) n);
          not_early = λ early.
              let w = early.starts in
              let g' = back ++ w.0 in
              let r = subst (λ (u : Tokens). R (late m w.0) w.1 u []) (ap (λ (u : Tokens). u ++ w.0) split
              ∙ append_assoc a.0 (t ∷ back) w.0) w.2 in
              let tied = subst (λ (u : Tokens). Tied true back g' u (a.0 ++ t ∷ g')) (sym split)
              (tie a.0 t back g') in
              refuses (late m w.0) ts back g' t w.1 _ h refl
              (p.complete true back g' (late m w.0) w.1 (a.0 ++ t ∷ g') [] r refl ts tied)
              (λ q q' d u i y n. both_ways (leb d m)
              (if_longer (length q') (suc (length w.0)) (leb d m)
              (omega (arith, tied_longer u, length-append back' w.0)) y) n);
        },
      )

  -- the outcome says where the fault stands
  pub exact : (ts : Tokens) → Exact R m ts (settle (run ts))
  unfolding Settled
  exact ts = by (run ts) (p.sound ts tt) refl
    where
      by : (out : Out X) → Sound same_tree R at_end m ts out → run ts ≡ out
          → Exact R m ts (settle out)
      by _ (stuck s o) h = fault_at ts s.deep s.rest o h
      by _ (read x t a k) h = (
        k,
        subst (λ (u : Tokens). R (within m) x u [])
            (sym (a.is ∙ ap a.put k)) (a.again (within m) (λ q d e. e) []),
      )
