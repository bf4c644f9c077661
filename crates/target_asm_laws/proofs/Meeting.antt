-- Good lines of one text, from one place, are the same as far as both go.
use Rattle.std.proofs.Common.{◌≡◌, ℕ, suc, List, [], ◌∷◌, length, refl, sym, ap, subst, ◌∙◌}
use Rattle.target_asm_spec.specs.LinePlaces.{Line, line_words, Place, after, MayStand, InFields}
use Rattle.target_asm_spec.specs.LinePlaces.{AreGood, place_after, lines_words}
use Rattle.target_asm_spec.specs.FirstAsmFault.{NoLine, BadNumber}
use Rattle.target_asm_laws.proofs.OneLine.{one_line}

-- where two lists of lines of one text end
pub data Meets (p q : Place) (ls ms : List Line) (t u : List ℕ) : Type 0 where
  together : length ls ≡ length ms → t ≡ u → place_after p ls ≡ place_after q ms → Meets p q ls ms t u
  first : (l : Line) (more : List ℕ) → MayStand (place_after p ls) l
      → InFields (place_after p ls) l → t ≡ line_words l more → Meets p q ls ms t u
  second : (l : Line) (more : List ℕ) → MayStand (place_after q ms) l
      → InFields (place_after q ms) l → u ≡ line_words l more → Meets p q ls ms t u

longer : (p q : Place) (k l : Line) (ls ms : List Line) (t u : List ℕ)
    → Meets (after p k) (after q l) ls ms t u → Meets p q (k ∷ ls) (l ∷ ms) t u
longer p q k l ls ms t u (together n h w) = together (ap suc n) h w
longer p q k l ls ms t u (first m more a b h) = first m more a b h
longer p q k l ls ms t u (second m more a b h) = second m more a b h

-- two lists of good lines of one text from one place end together, or one of them may go on where the other
-- ends
pub meet : (p q : Place) (ls ms : List Line) (t u : List ℕ) → p ≡ q → AreGood p ls → AreGood q ms
    → lines_words ls t ≡ lines_words ms u → Meets p q ls ms t u
meet p q [] [] t u e a b h = together refl h e
meet p q [] (m ∷ ms) t u e a b h =
    first m (lines_words ms u) (subst (λ (x : Place). MayStand x m) (sym e) b.0)
    (subst (λ (x : Place). InFields x m) (sym e) b.1) h
meet p q (l ∷ ls) [] t u e a b h =
    second l (lines_words ls t) (subst (λ (x : Place). MayStand x l) e a.0)
    (subst (λ (x : Place). InFields x l) e a.1) (sym h)
meet p q (l ∷ ls) (m ∷ ms) t u e a b h =
    let s = one_line p l m (lines_words ls t) (lines_words ms u) a.0
    (subst (λ (x : Place). MayStand x m) (sym e) b.0) h in
    let next : after p l ≡ after q m = s.next a.1 ∙ ap (λ (x : Place). after x m) e in
    longer p q l m ls ms t u
    (meet (after p l) (after q m) ls ms t u next a.2 b.2 s.rest)

-- ---- a place with a fault

-- what a fault is, at a place
pub data Broken (p : Place) (t : List ℕ) : Type 0 where
  syntax : NoLine p t → Broken p t
  range : BadNumber p t → Broken p t

-- no good line begins there
pub no_good : (p : Place) (t : List ℕ) (l : Line) (more : List ℕ) → Broken p t → MayStand p l
    → InFields p l → t ≡ line_words l more → ⊥
no_good p t l more (syntax n) a b e = n.none l more a e
no_good p t l more (range n) a b e =
    let s = one_line p l n.line more n.more a n.stands (sym e ∙ n.is) in n.outside (s.fields b)

-- good lines of one text that end at a fault end at the same one
pub one_end : (p q : Place) (ls ms : List Line) (t u : List ℕ)
    → Meets p q ls ms t u → Broken (place_after p ls) t → Broken (place_after q ms) u
    → (length ls ≡ length ms) × (t ≡ u) × (place_after p ls ≡ place_after q ms)
one_end p q ls ms t u (together n h w) a b = (n, h, w)
one_end p q ls ms t u (first l more c d e) a b = absurd (no_good (place_after p ls) t l more a c d e)
one_end p q ls ms t u (second l more c d e) a b = absurd (no_good (place_after q ms) u l more b c d e)

-- a place has one fault
pub one_break : (p : Place) (t : List ℕ) → NoLine p t → BadNumber p t → ⊥
one_break p t a b = a.none b.line b.more b.stands b.is
