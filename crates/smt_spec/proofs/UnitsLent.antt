-- Part (5) for the program that comes first: its units turn as they do for it alone, but that others may take those
-- which it leaves free.
use Rattle.std.proofs.Common.{◌≡◌, ℕ, zero, suc, ◌≤◌, ◌==◌, Bool, true, false, cond, List, [], ◌∷◌, refl, sym, ap}
use Rattle.std.proofs.Common.{◌∙◌, subst, arith}
use Rattle.std.proofs.lemmas.Bool.{cond_both, cond-false, eqb-true, ne_eqb}
use Rattle.grid_cycle_spec.specs.Grid.{Grid}
use Rattle.grid_cycle_spec.specs.Choosing.{each}
use Rattle.grid_cycle_spec.specs.Units.{unit_on, issues, unit_turn, works_on}
use Rattle.smt_spec.specs.Programs.{Four, grid_of, alone, put}
use Rattle.smt_spec.specs.Turns.{first_does}
use Rattle.smt_spec.specs.inside.Among.{Apart}
use Rattle.smt_spec.specs.Parts.{Images, busy_for, gives, unit_on_of, has_ready, issues_of, unit_turn_of, works_of}
use Rattle.smt_spec.specs.inside.Laws.{Lends}
use Rattle.smt_spec.proofs.SeenAlone.{put_same, put_other, all_alone, among, shared}
use Rattle.smt_spec.proofs.SharedLeft.{gives_kept}
use Rattle.smt_spec.proofs.NothingChosen.{no_ready}
use Rattle.smt_spec.proofs.UnitsUnseen.{less_at, less_here, less_busy, with_units, unit_blind, unit_leaves, Beside}
use Rattle.smt_spec.proofs.UnitsUnseen.{issues_beside, issues_rest}

module _ {W : Type 0} (images : Images) (budget : ℕ) (p : ℕ) (ps : List ℕ) (apart : Apart p ps) where
  -- a unit turns for the program as it does for it alone
  unit_alone : (k left : ℕ) (g : Four W) → alone p (unit_on_of (p ∷ ps) k left g) ≡ unit_on k left (alone p g)
  unit_alone k zero g = refl
  unit_alone k (suc zero) g = all_alone (gives k) (λ q h. gives_kept (images q) budget k q h) p ps (busy_for k 0 g)
      apart
  unit_alone k (suc (suc left)) g = refl

  -- where others issue, only that unit may be another
  record Elsewhere (k : ℕ) (y z : Grid W) : Type 0 where
    is : z ≡ with_units z.units y
    far : (t : ℕ) → (t == k) ≡ false → z.units t ≡ y.units t

  others_issue : (k : ℕ) (qs : List ℕ) (g : Four W) → Apart p qs
      → Elsewhere k (alone p g) (alone p (first_does (has_ready images budget k) (λ q. issues (images q) budget k)
      qs g))
  others_issue k [] g a = record { is = refl; far = λ t e. refl }
  others_issue k (q ∷ qs) g a = cond_both (has_ready images budget k q (alone q g))
      (put q (issues (images q) budget k (alone q g)) g)
      (first_does (has_ready images budget k) (λ q. issues (images q) budget k) qs g)
      (λ (x : Four W). Elsewhere k (alone p g) (alone p x))
      (λ e. subst (Elsewhere k (alone p g)) (sym (put_other p q (issues (images q) budget k (alone q g)) g a.0))
      taken)
      (λ e. others_issue k qs g a.1)
    where
      taken : Elsewhere k (alone p g) (among (g.own p) (shared (issues (images q) budget k (alone q g))))
      taken = record {
        is = ap (λ (r : W × ℕ). grid_of (g.own p) (issues (images q) budget k (alone q g)).units r.0 r.1)
            (issues_rest (images q) budget k (alone q g));
        far = λ t e. (issues_beside (images q) budget k g.units (alone q g) refl).others t e;
      }

  -- the issue of a tile
  record Issued (k : ℕ) (y z : Grid W) : Type 0 where
    is : z ≡ with_units z.units (issues (images p) budget k y)
    far : (t : ℕ) → (t == k) ≡ false → z.units t ≡ (issues (images p) budget k y).units t
    here : 1 ≤ (issues (images p) budget k y).units k → z.units k ≡ (issues (images p) budget k y).units k

  same_issued : (k : ℕ) (y z : Grid W) → z ≡ issues (images p) budget k y → Issued k y z
  same_issued k y z e = subst (Issued k y) (sym e) (record { is = refl; far = λ t i. refl; here = λ l. refl })

  issue_first : (k : ℕ) (g : Four W) → Issued k (alone p g) (alone p (issues_of images budget (p ∷ ps) k g))
  issue_first k g = go (g.units k == 0) refl
    where
      rest : g.units k ≡ 0 → has_ready images budget k p (alone p g) ≡ false
          → Issued k (alone p g) (alone p (first_does (has_ready images budget k) (λ q. issues (images q) budget k)
          ps g))
      rest free e =
          let o = others_issue k ps g apart in
          let n : issues (images p) budget k (alone p g) ≡ alone p g = no_ready images budget k p (alone p g) e in
          let z : Grid W = alone p (first_does (has_ready images budget k) (λ q. issues (images q) budget k) ps g) in
          record {
            is = o.is ∙ ap (with_units z.units) (sym n);
            far = λ t i. o.far t i ∙ ap (λ (h : Grid W). h.units t) (sym n);
            here = λ l. absurd (let m : (issues (images p) budget k (alone p g)).units k ≡ g.units k =
                ap (λ (h : Grid W). h.units k) n in omega (arith, l, m, free));
          }

      free_issue : g.units k ≡ 0 → Issued k (alone p g) (alone p (first_does (has_ready images budget k) (λ q.
          issues (images q) budget k) (p ∷ ps) g))
      free_issue free = cond_both (has_ready images budget k p (alone p g))
          (put p (issues (images p) budget k (alone p g)) g)
          (first_does (has_ready images budget k) (λ q. issues (images q) budget k) ps g)
          (λ (x : Four W). Issued k (alone p g) (alone p x))
          (λ e. same_issued k (alone p g) _ (put_same p (issues (images p) budget k (alone p g)) g))
          (rest free)

      go : (b : Bool) → (g.units k == 0) ≡ b → Issued k (alone p g) (alone p (cond b (first_does (has_ready images
          budget k) (λ q. issues (images q) budget k) (p ∷ ps) g) g))
      go true e = free_issue (eqb-true (g.units k) 0 e)
      go false e = same_issued k (alone p g) (alone p g) (sym (cond-false (g.units k == 0) _ _ e))

  -- turns -----------------------------------------------------------------------------------------

  -- the units of the first k tiles have turned
  module _ (k : ℕ) (x : Grid W) (g : Four W) (l : Lends k x (alone p g)) where
    abbrev G1 : Four W
    G1 = unit_on_of (p ∷ ps) k (g.units k) g

    abbrev x1 : Grid W
    x1 = unit_on k (x.units k) x

    abbrev u1 : ℕ → ℕ
    u1 = less_at k (x.units k) g.units

    abbrev z : Grid W
    z = alone p (issues_of images budget (p ∷ ps) k (unit_on_of (p ∷ ps) k (g.units k) g))

    e0 : g.units k ≡ x.units k
    e0 = l.ahead k (omega arith)

    y1_is : alone p G1 ≡ with_units u1 x1
    y1_is = unit_alone k (g.units k) g ∙ ap (unit_on k (g.units k)) l.is ∙ unit_blind k (g.units k) g.units x
        ∙ ap (λ j. with_units (less_at k j g.units) (unit_on k j x)) e0

    x1_units : x1.units ≡ less_at k (x.units k) x.units
    x1_units = unit_leaves k (x.units k) x

    -- where the units agree before the turn, they do behind it
    u1_is : (t : ℕ) → g.units t ≡ x.units t → u1 t ≡ x1.units t
    u1_is t e = less_here k (x.units k) g.units x.units t e ∙ ap (λ (v : ℕ → ℕ). v t) (sym x1_units)

    u1_busy : (t : ℕ) → 1 ≤ x1.units t → u1 t ≡ x1.units t
    u1_busy t m = less_busy k (x.units k) g.units x.units t (l.busy t)
        (subst (λ (v : ℕ → ℕ). 1 ≤ v t) x1_units m) ∙ ap (λ (v : ℕ → ℕ). v t) (sym x1_units)

    b : Beside k u1 x1 (issues (images p) budget k x1) (issues (images p) budget k (alone p G1))
    b = subst (λ (y : Grid W). Beside k u1 x1 (issues (images p) budget k x1) (issues (images p) budget k y))
        (sym y1_is) (issues_beside (images p) budget k u1 x1 (u1_is k e0))

    i : Issued k (alone p G1) z
    i = issue_first k G1

    by : (t : ℕ) → 1 ≤ (issues (images p) budget k x1).units t → (c : Bool) → (t == k) ≡ c
        → z.units t ≡ (issues (images p) budget k x1).units t
    by t m true e =
        let at : t ≡ k = eqb-true t k e in
        let m' : 1 ≤ (issues (images p) budget k x1).units k =
        subst (λ j. 1 ≤ (issues (images p) budget k x1).units j) at m in
        subst (λ j. z.units j ≡ (issues (images p) budget k x1).units j) (sym at)
        (i.here (subst (λ j. 1 ≤ j) (sym b.here) m') ∙ b.here)
    by t m false e = i.far t e ∙ b.others t e
        ∙ u1_busy t (subst (λ j. 1 ≤ j) (b.plain t e) m) ∙ sym (b.plain t e)

    turn_first : Lends (suc k) (unit_turn (images p) budget k x) (alone p (unit_turn_of images budget (p ∷ ps) k g))
    turn_first = record {
      is = i.is ∙ ap (with_units z.units) b.is;
      ahead = λ t m. let e : (t == k) ≡ false = ne_eqb t k (λ c. absurd (omega (arith, m, c))) in
          i.far t e ∙ b.others t e ∙ u1_is t (l.ahead t (omega (arith, m))) ∙ sym (b.plain t e);
      busy = λ t m. by t m (t == k) refl;
    }

  turns_first : (k : ℕ) (g : Four W)
      → Lends k (each (unit_turn (images p) budget) k (alone p g)) (alone p (each (unit_turn_of images budget (p ∷
      ps)) k g))
  turns_first zero g = record { is = refl; ahead = λ t m. refl; busy = λ t m. refl }
  turns_first (suc k) g = turn_first k (each (unit_turn (images p) budget) k (alone p g))
      (each (unit_turn_of images budget (p ∷ ps)) k g) (turns_first k g)

  -- part (5)
  pub works_first : (g : Four W) → Lends 16 (works_on (images p) budget (alone p g)) (alone p (works_of images
      budget (p ∷ ps) g))
  works_first = turns_first 16
