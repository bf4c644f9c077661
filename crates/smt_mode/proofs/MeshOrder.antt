-- The frames of several programs in the mesh: their numbers are below eight, and no two are the same.
use Rattle.std.proofs.Common.{◌≡◌, ℕ, ◌+◌, ◌*◌, ◌<◌, ◌==◌, ◌||◌, ◌++◌, Bool, true, false, List, [], ◌∷◌, map, refl}
use Rattle.std.proofs.Common.{sym, ◌∙◌, arith, true≢false}
use Rattle.std.specs.Prelude.{All}
use Rattle.std.specs.List.{list_any}
use Rattle.std.proofs.lemmas.Bool.{eq-eqb, eqb-true, eqb-false}
use Rattle.std.proofs.lemmas.List.Elements.{All-head, All-tail}
use Rattle.commit_flush_spec.specs.inside.Laws.{AreNumbers}
use Rattle.grid_cycle_spec.specs.Grid.{numbers_of}
use Rattle.smt_spec.specs.Programs.{Four, order}
use Rattle.smt_spec.specs.inside.Among.{Apart, Distinct}
use Rattle.smt_bound.specs.inside.FourRule.{AllTwo}

-- a number's place in the mesh
abbrev frame : ℕ → ℕ → ℕ
frame p n = 2 * p + n

-- one that differs from the first and from all others is none of them
differs : (x y : ℕ) (b : Bool) → (x ≡ y → ⊥) → b ≡ false → ((x == y) || b) ≡ false
differs x y b n e = by (x == y) refl
  where
    by : (c : Bool) → (x == y) ≡ c → (c || b) ≡ false
    by true i = absurd (n (eqb-true x y i))
    by false i = e

-- frames of one program, before others
same_program : (p n : ℕ) (ns rest : List ℕ) → list_any (λ m. m == n) ns ≡ false
    → list_any (λ m. m == frame p n) rest ≡ false → list_any (λ m. m == frame p n) (map (frame p) ns ++ rest) ≡ false
same_program p n [] rest e r = r
same_program p n (m ∷ ns) rest e r = by (m == n) refl e (λ f. same_program p n ns rest f r)
  where
    by : (b : Bool) → (m == n) ≡ b → (b || list_any (λ k. k == n) ns) ≡ false
        → (list_any (λ k. k == n) ns ≡ false → list_any (λ k. k == frame p n) (map (frame p) ns ++ rest) ≡ false)
        → list_any (λ k. k == frame p n) (map (frame p) (m ∷ ns) ++ rest) ≡ false
    by true i f more = absurd (true≢false f)
    by false i f more = differs (frame p m) (frame p n)
        (list_any (λ k. k == frame p n) (map (frame p) ns ++ rest))
        (λ z. let bad : m ≡ n = omega (arith, z) in true≢false (sym (eq-eqb m n bad) ∙ i)) (more f)

-- frames of another program, before others
other_program : (p n q : ℕ) → n < 2 → (p == q) ≡ false → (ms rest : List ℕ) → AllTwo ms
    → list_any (λ m. m == frame p n) rest ≡ false → list_any (λ m. m == frame p n) (map (frame q) ms ++ rest) ≡ false
other_program p n q l e [] rest t r = r
other_program p n q l e (m ∷ ms) rest t r =
    differs (frame q m) (frame p n) _
    (λ z. let two = t.0 in let bad : p ≡ q = omega (arith, z, l, two) in eqb-false p q e bad)
    (other_program p n q l e ms rest t.1 r)

module _ {W : Type 0} (g : Four W) (two : (p : ℕ) → AllTwo (numbers_of (g.own p).window.frames)) where
  others_apart : (p n : ℕ) → n < 2 → (qs : List ℕ) → Apart p qs → list_any (λ m. m == frame p n) (order g qs) ≡ false
  others_apart p n l [] a = refl
  others_apart p n l (q ∷ qs) a = other_program p n q l a.0 (numbers_of (g.own q).window.frames) (order g qs) (two q)
      (others_apart p n l qs a.1)

  one_program : (p : ℕ) → p < 4 → (qs : List ℕ) → Apart p qs → (ns : List ℕ) → AreNumbers ns → AllTwo ns
      → AreNumbers (order g qs) → AreNumbers (map (frame p) ns ++ order g qs)
  one_program p l qs a [] h t r = r
  one_program p l qs a (n ∷ ns) h t r =
      let two = t.0 in (
        (omega (arith, l, two)),
        same_program p n ns (order g qs) h.1 (others_apart p n two qs a),
        one_program p l qs a ns h.2 t.1 r,
      )

  -- no two frames of a program have the same number
  abbrev HasOwnNumbers : ℕ → Type 0
  HasOwnNumbers p = AreNumbers (numbers_of (g.own p).window.frames)

  -- the frames in flight of some programs are of the eight of the mesh, and no two are the same
  pub order_numbers : (ps : List ℕ) → Distinct ps → All (λ p. p < 4) ps → All HasOwnNumbers ps
      → AreNumbers (order g ps)
  order_numbers [] d l h = tt
  order_numbers (p ∷ ps) d l h = one_program p (All-head (λ q. q < 4) p ps l) ps d.0
      (numbers_of (g.own p).window.frames) (All-head HasOwnNumbers p ps h) (two p)
      (order_numbers ps d.1 (All-tail (λ q. q < 4) p ps l) (All-tail HasOwnNumbers p ps h))
